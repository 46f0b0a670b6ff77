-- The degrees after each symbol, counted over names: what the numbers at the free sides become.
use Rattle.std.proofs.Common.{◌≡◌, ◌≢◌, ℕ, suc, ◌+◌, ◌*◌, ◌<◌, ◌≤◌, Bool, true, false, ◌==◌, cond, List, [], ◌∷◌, ◌++◌, length, get_or, map, set, ◌⊎◌, inl, inr, sym, refl, ap, ◌∙◌, subst, arith, length-append, length-set, get_or-set_other, get_or-set_same}
use Rattle.std.proofs.lemmas.Bool.{cases_Bool, cases_lt, cases_eq, cond-true, cond-false}
use Rattle.std.proofs.lemmas.List.{length-map}
use Rattle.corner_table.specs.Sides.{Side, Place, first, second, third, side, number, next, prev, place_after, place_before, place_number, Gluing, glue, IsFree}
use Rattle.corner_table.proofs.Numbers.{number-lt}
use Rattle.eb_machine.specs.declared.beside.Beside.{Beside}
use Rattle.eb_machine.specs.declared.beside.Beside.TheVariants.{Left, Right}
use Rattle.eb_machine.specs.Beside.{glued_place, new_triangle}
use Rattle.eb_machine.specs.Named.{Triangle, Row, corner, no_triangle, renamed, renamed_triangle}
use Rattle.eb_machine.specs.Shown.{name_of, AreNames}
use Rattle.eb_machine.proofs.NamedRules.{renamed_from, renamed_case}
use Rattle.eb_machine.specs.OneFaceMore.{Pairs, glue_all, IsOther, IsOtherPlace, PairsAreApart}
use Rattle.eb_machine.proofs.ManyGlued.{free_tells}
use Rattle.eb_machine.proofs.Naming.{get_or-before_last, get_or-last, name_old}
use Rattle.eb_rebuild.specs.Counted.{times_in}
use Rattle.eb_rebuild.specs.KeptDegrees.{degree_raised, after_end, after_beside, after_tip, after_split}
use Rattle.eb_rebuild.proofs.NameDegrees.{bit, bit_same, bit_other, count, count_more, count_none, count_renamed, one_start, raised_is}

-- the number at each free side is the degree by names
abbrev pub AreCounts : List Triangle → Gluing → List ℕ → Type 0
AreCounts ts g ds = (s : Side) → IsFree (length ts) g s → get_or ds (number s) 0 ≡ suc (count (name_of ts (next s)) ts)

-- one more triangle: the numbers at old sides and at the sides of the new face
counts_grow : (us : List Triangle) (t : Triangle) (f : ℕ) → length us ≡ f → (g : Gluing) (ds : List ℕ) →
    ((s : Side) → s.face < f → IsFree (suc f) g s → get_or ds (number s) 0 ≡ suc (count (name_of us (next s)) us + times_in (name_of us (next s)) t)) →
    ((k : Place) → IsFree (suc f) g (side f k) → get_or ds (number (side f k)) 0 ≡ suc (count (corner t (place_after k)) us + times_in (corner t (place_after k)) t)) →
    AreCounts (us ++ (t ∷ [])) g ds
counts_grow us t f e g ds old new s S =
    let long : length (us ++ (t ∷ [])) ≡ suc f = (let a = length-append us (t ∷ []) in omega arith) in
    let F : IsFree (suc f) g s = subst (λ (n : ℕ). IsFree n g s) long S in
    let more : (v : ℕ) → suc (count v us + times_in v t) ≡ suc (count v (us ++ (t ∷ []))) = λ v. ap suc (sym (count_more v us t)) in
    elim (cases_lt s.face f) [
      | inl l ↦ (
          let h : s.face < length us = omega arith in
          let name : name_of us (next s) ≡ name_of (us ++ (t ∷ [])) (next s) = ap (λ (u : Triangle). corner u (next s).place) (sym (get_or-before_last us t no_triangle s.face h)) in
          old s l F ∙ more (name_of us (next s)) ∙ ap (λ (v : ℕ). suc (count v (us ++ (t ∷ [])))) name)
      | inr l ↦ (
          let w = F.within in
          let at : s.face ≡ length us = omega arith in
          let here : s.face ≡ f = omega arith in
          let is : s ≡ side f s.place = ap (λ (n : ℕ). side n s.place) here in
          let name : corner t (place_after s.place) ≡ name_of (us ++ (t ∷ [])) (next s) = ap (λ (u : Triangle). corner u (next s).place) (sym (ap (λ (n : ℕ). get_or (us ++ (t ∷ [])) n no_triangle) at ∙ get_or-last us t no_triangle)) in
          ap (λ (x : Side). get_or ds (number x) 0) is ∙ new s.place (subst (IsFree (suc f) g) is F) ∙ more (corner t (place_after s.place)) ∙ ap (λ (v : ℕ). suc (count v (us ++ (t ∷ [])))) name)
    ]

-- a side that stays free was free and is none of those that are glued; a side of the new face isn't glued
was_free : {ts : List Triangle} {rows : List Row} {g : Gluing} {made : ℕ} → AreNames ts rows g made → (ps : Pairs) → PairsAreApart (length ts) g ps → (s : Side) → s.face < length ts → IsFree (suc (length ts)) (glue_all (length ts) ps g) s → IsFree (length ts) g s × IsOther s ps
was_free {ts} N ps A s l S = elim (free_tells N.gluing ps s A S) [ inl o ↦ o | inr n ↦ absurd (let e = n.0 in omega arith) ]

is_left : {ts : List Triangle} {rows : List Row} {g : Gluing} {made : ℕ} → AreNames ts rows g made → (ps : Pairs) → PairsAreApart (length ts) g ps → (k : Place) → IsFree (suc (length ts)) (glue_all (length ts) ps g) (side (length ts) k) → IsOtherPlace k ps
is_left {ts} N ps A k S = elim (free_tells N.gluing ps (side (length ts) k) A S) [ inl o ↦ absurd (let w = o.0.within in omega arith) | inr n ↦ n.1 ]

-- free sides round one that is to be glued
pub record IsAround (ts : List Triangle) (rows : List Row) (g : Gluing) (made : ℕ) (a na : Side) : Type 0 where
  pub names : AreNames ts rows g made
  pub free : IsFree (length ts) g a
  pub after_free : IsFree (length ts) g na
  pub meets : name_of ts (next na) ≡ name_of ts (prev a)

-- what is read where a number is written, and elsewhere
read_at : (xs : List ℕ) (i j v : ℕ) → j ≡ i → i < length xs → get_or (set xs i v) j 0 ≡ v
read_at xs i j v e l = ap (λ (k : ℕ). get_or (set xs i v) k 0) e ∙ get_or-set_same xs i v 0 l

read_by : (xs : List ℕ) (i j v : ℕ) → j ≢ i → get_or (set xs i v) j 0 ≡ get_or xs j 0
read_by xs i j v n = get_or-set_other xs i j v 0 n

length-raised : (i k : ℕ) (ds : List ℕ) → length (degree_raised i k ds) ≡ length ds
length-raised i k ds = length-set ds i (get_or ds i 0 + k)

-- E
pub end_counts : {ts : List Triangle} {rows : List Row} {g : Gluing} {made : ℕ} → AreNames ts rows g made → (ds : List ℕ) → 3 * suc (length ts) ≤ length ds → AreCounts ts g ds →
    AreCounts (ts ++ ((made, made + 1, made + 2) ∷ [])) g (after_end (length ts) ds)
end_counts {ts} {rows} {g} {made} N ds room K = counts_grow ts t f refl g (after_end f ds) old new
  where
    f : ℕ
    f = length ts

    t : Triangle
    t = (made, made + 1, made + 2)

    one : List ℕ
    one = set ds (3 * f) 2

    two : List ℕ
    two = set one (3 * f + 1) 2

    none : (v : ℕ) → made ≤ v → count v ts ≡ 0
    none v h = count_none v ts (λ c l e. (let b = N.below c l in absurd (omega arith)))

    old : (s : Side) → s.face < f → IsFree (suc f) g s → get_or (after_end f ds) (number s) 0 ≡ suc (count (name_of ts (next s)) ts + times_in (name_of ts (next s)) t)
    old s l S =
        let u = name_of ts (next s) in
        let low = number-lt s f l in
        let b = N.below (next s) l in
        let x = read_by two (3 * f + 2) (number s) 2 (λ e. absurd (omega arith)) in
        let y = read_by one (3 * f + 1) (number s) 2 (λ e. absurd (omega arith)) in
        let z = read_by ds (3 * f) (number s) 2 (λ e. absurd (omega arith)) in
        let k = K s (record { within = l; free = S.free }) in
        let c = bit_other u made (λ e. absurd (omega arith)) in
        let d = bit_other u (made + 1) (λ e. absurd (omega arith)) in
        let e = bit_other u (made + 2) (λ e. absurd (omega arith)) in
        omega arith

    new : (k : Place) → IsFree (suc f) g (side f k) → get_or (after_end f ds) (number (side f k)) 0 ≡ suc (count (corner t (place_after k)) ts + times_in (corner t (place_after k)) t)
    new first S =
        let l : length one ≡ length ds = length-set ds (3 * f) 2 in
        let x = read_by two (3 * f + 2) (number (side f first)) 2 (λ e. absurd (omega arith)) in
        let y = read_by one (3 * f + 1) (number (side f first)) 2 (λ e. absurd (omega arith)) in
        let z = read_at ds (3 * f) (number (side f first)) 2 (omega arith) (omega arith) in
        let n = none (made + 1) (omega arith) in
        let c = bit_other (made + 1) made (λ e. absurd (omega arith)) in
        let d = bit_same (made + 1) (made + 1) refl in
        let e = bit_other (made + 1) (made + 2) (λ e. absurd (omega arith)) in
        omega arith
    new second S =
        let l : length one ≡ length ds = length-set ds (3 * f) 2 in
        let x = read_by two (3 * f + 2) (number (side f second)) 2 (λ e. absurd (omega arith)) in
        let y = read_at one (3 * f + 1) (number (side f second)) 2 (omega arith) (omega arith) in
        let n = none (made + 2) (omega arith) in
        let c = bit_other (made + 2) made (λ e. absurd (omega arith)) in
        let d = bit_other (made + 2) (made + 1) (λ e. absurd (omega arith)) in
        let e = bit_same (made + 2) (made + 2) refl in
        omega arith
    new third S =
        let l : length one ≡ length ds = length-set ds (3 * f) 2 in
        let m : length two ≡ length one = length-set one (3 * f + 1) 2 in
        let x = read_at two (3 * f + 2) (number (side f third)) 2 (omega arith) (omega arith) in
        let n = none made (omega arith) in
        let c = bit_same made made refl in
        let d = bit_other made (made + 1) (λ e. absurd (omega arith)) in
        let e = bit_other made (made + 2) (λ e. absurd (omega arith)) in
        omega arith

-- L and R: the glued side of the new face, the one after it and the one before it are all three
places_round : (k j : Place) → (j ≡ k) ⊎ ((j ≡ place_after k) ⊎ (j ≡ place_before k))
places_round first first = inl refl
places_round first second = inr (inl refl)
places_round first third = inr (inr refl)
places_round second first = inr (inr refl)
places_round second second = inl refl
places_round second third = inr (inl refl)
places_round third first = inr (inl refl)
places_round third second = inr (inr refl)
places_round third third = inl refl

after_apart : (b : Beside) → place_number (place_after (glued_place b)) ≢ place_number (place_before (glued_place b))
after_apart Left e = absurd (omega arith)
after_apart Right e = absurd (omega arith)

corner_after : (b : Beside) (from to new : ℕ) → corner (new_triangle b from to new) (place_after (place_after (glued_place b))) ≡ from
corner_after Left from to new = refl
corner_after Right from to new = refl

corner_before : (b : Beside) (from to new : ℕ) → corner (new_triangle b from to new) (place_after (place_before (glued_place b))) ≡ new
corner_before Left from to new = refl
corner_before Right from to new = refl

times_new : (b : Beside) (v from to new : ℕ) → times_in v (new_triangle b from to new) ≡ bit v from + bit v to + bit v new
times_new Left v from to new = omega arith
times_new Right v from to new = omega arith

pub beside_counts : {ts : List Triangle} {rows : List Row} {g : Gluing} {made : ℕ} (b : Beside) (a na : Side) → IsAround ts rows g made a na → (ds : List ℕ) → 3 * suc (length ts) ≤ length ds → AreCounts ts g ds →
    AreCounts (ts ++ (new_triangle b (name_of ts (next a)) (name_of ts (prev a)) made ∷ [])) (glue (side (length ts) (glued_place b)) a g) (after_beside b (length ts) (number a) (number na) ds)
beside_counts {ts} {rows} {g} {made} b a na W ds room K = counts_grow ts t f refl (glue (side f k) a g) (after_beside b f (number a) (number na) ds) old new
  where
    N : AreNames ts rows g made
    N = W.names

    f : ℕ
    f = length ts

    k : Place
    k = glued_place b

    p : ℕ
    p = name_of ts (prev a)

    q : ℕ
    q = name_of ts (next a)

    t : Triangle
    t = new_triangle b q p made

    ps : Pairs
    ps = (k, a) ∷ []

    apart : PairsAreApart f g ps
    apart = (W.free, tt, tt, tt)

    more : List ℕ
    more = degree_raised (number na) 1 ds

    one : List ℕ
    one = set more (number (side f (place_after k))) (get_or more (number a) 0 + 1)

    reads : (s : Side) → IsFree f g s → get_or more (number s) 0 ≡ suc (count (name_of ts (next s)) ts) + bit (name_of ts (next s)) p
    reads s S =
        let l = number-lt na f W.after_free.within in
        let x = raised_is N a na s W.after_free W.meets S 1 ds (omega arith) in
        let k = K s S in
        omega arith

    old : (s : Side) → s.face < f → IsFree (suc f) (glue (side f k) a g) s → get_or (after_beside b f (number a) (number na) ds) (number s) 0 ≡ suc (count (name_of ts (next s)) ts + times_in (name_of ts (next s)) t)
    old s l S =
        let O = was_free N ps apart s l S in
        let u = name_of ts (next s) in
        let low = number-lt s f l in
        let h = N.below (next s) l in
        let x = read_by one (number (side f (place_before k))) (number s) 2 (λ e. absurd (omega arith)) in
        let y = read_by more (number (side f (place_after k))) (number s) (get_or more (number a) 0 + 1) (λ e. absurd (omega arith)) in
        let z = reads s O.0 in
        let c = bit_other u q (λ e. O.1.0 (one_start N s a O.0 W.free e)) in
        let d = bit_other u made (λ e. absurd (omega arith)) in
        let i = times_new b u q p made in
        omega arith

    -- the number at a side of the new face, where the corner at which it starts has a name
    Reads : Place → ℕ → Type 0
    Reads j v = get_or (after_beside b f (number a) (number na) ds) (number (side f j)) 0 ≡ suc (count v ts + times_in v t)

    at_after : Reads (place_after k) q
    at_after =
        let l = length-raised (number na) 1 ds in
        let h = N.below (next a) W.free.within in
        let m = number-lt (side f (place_after k)) (suc f) (omega arith) in
        let n = after_apart b in
        let x = read_by one (number (side f (place_before k))) (number (side f (place_after k))) 2 (λ e. n (omega arith)) in
        let y = read_at more (number (side f (place_after k))) (number (side f (place_after k))) (get_or more (number a) 0 + 1) refl (omega arith) in
        let z = reads a W.free in
        let c = bit_same q q refl in
        let d = bit_other q made (λ e. absurd (omega arith)) in
        let i = times_new b q q p made in
        omega arith

    at_before : Reads (place_before k) made
    at_before =
        let l = length-raised (number na) 1 ds in
        let m : length one ≡ length more = length-set more (number (side f (place_after k))) (get_or more (number a) 0 + 1) in
        let o = number-lt (side f (place_before k)) (suc f) (omega arith) in
        let x = read_at one (number (side f (place_before k))) (number (side f (place_before k))) 2 refl (omega arith) in
        let n = count_none made ts (λ c l e. (let b = N.below c l in absurd (omega arith))) in
        let h = N.below (next a) W.free.within in
        let j = N.below (prev a) W.free.within in
        let c = bit_other made p (λ e. absurd (omega arith)) in
        let d = bit_other made q (λ e. absurd (omega arith)) in
        let e = bit_same made made refl in
        let i = times_new b made q p made in
        omega arith

    new : (j : Place) → IsFree (suc f) (glue (side f k) a g) (side f j) → Reads j (corner t (place_after j))
    new j S = elim (places_round k j) [
      | inl e ↦ absurd ((is_left N ps apart j S).0 e)
      | inr o ↦ elim o [
        | inl e ↦ subst (λ (i : Place). Reads i (corner t (place_after i))) (sym e) (subst (Reads (place_after k)) (sym (corner_after b q p made)) at_after)
        | inr e ↦ subst (λ (i : Place). Reads i (corner t (place_after i))) (sym e) (subst (Reads (place_before k)) (sym (corner_before b q p made)) at_before)
      ]
    ]

-- C
pub tip_counts : {ts : List Triangle} {rows : List Row} {g : Gluing} {made : ℕ} (a b na : Side) → IsAround ts rows g made a na → IsFree (length ts) g b → b ≢ a → (ds : List ℕ) → 3 * suc (length ts) ≤ length ds → AreCounts ts g ds →
    AreCounts (ts ++ ((name_of ts (next a), name_of ts (next b), name_of ts (prev a)) ∷ [])) (glue (side (length ts) third) b (glue (side (length ts) second) a g)) (after_tip (length ts) (number b) (number na) ds)
tip_counts {ts} {rows} {g} {made} a b na W B ne ds room K = counts_grow ts t f refl (glue (side f third) b (glue (side f second) a g)) (after_tip f (number b) (number na) ds) old new
  where
    N : AreNames ts rows g made
    N = W.names

    f : ℕ
    f = length ts

    p : ℕ
    p = name_of ts (prev a)

    q : ℕ
    q = name_of ts (next a)

    r : ℕ
    r = name_of ts (next b)

    t : Triangle
    t = (q, r, p)

    ps : Pairs
    ps = (third, b) ∷ (second, a) ∷ []

    apart : PairsAreApart f g ps
    apart = (B, (ne, tt), ((λ e. (cc)), tt), (W.free, tt, tt, tt))

    more : List ℕ
    more = degree_raised (number na) 1 ds

    reads : (s : Side) → IsFree f g s → get_or more (number s) 0 ≡ suc (count (name_of ts (next s)) ts) + bit (name_of ts (next s)) p
    reads s S =
        let l = number-lt na f W.after_free.within in
        let x = raised_is N a na s W.after_free W.meets S 1 ds (omega arith) in
        let k = K s S in
        omega arith

    old : (s : Side) → s.face < f → IsFree (suc f) (glue_all f ps g) s → get_or (after_tip f (number b) (number na) ds) (number s) 0 ≡ suc (count (name_of ts (next s)) ts + times_in (name_of ts (next s)) t)
    old s l S =
        let O = was_free N ps apart s l S in
        let u = name_of ts (next s) in
        let low = number-lt s f l in
        let y = read_by more (3 * f) (number s) (get_or more (number b) 0 + 1) (λ e. absurd (omega arith)) in
        let z = reads s O.0 in
        let c = bit_other u q (λ e. O.1.1.0 (one_start N s a O.0 W.free e)) in
        let d = bit_other u r (λ e. O.1.0 (one_start N s b O.0 B e)) in
        omega arith

    new : (k : Place) → IsFree (suc f) (glue_all f ps g) (side f k) → get_or (after_tip f (number b) (number na) ds) (number (side f k)) 0 ≡ suc (count (corner t (place_after k)) ts + times_in (corner t (place_after k)) t)
    new first S =
        let l = length-raised (number na) 1 ds in
        let y = read_at more (3 * f) (number (side f first)) (get_or more (number b) 0 + 1) (omega arith) (omega arith) in
        let z = reads b B in
        let c = bit_other r q (λ e. ne (one_start N b a B W.free e)) in
        let d = bit_same r r refl in
        omega arith
    new second S = absurd ((is_left N ps apart second S).1.0 refl)
    new third S = absurd ((is_left N ps apart third S).0 refl)

-- S: what the corners of the merged vertex and the new face bring to a vertex that isn't taken away
brings : (n p q z u c d : ℕ) → u ≢ n → d ≡ c + bit n z → cond (u == p) d 0 + bit u z ≡ cond (u == p) c 0 + bit u (renamed n p z)
brings n p q z u c d ne e = elim (cases_eq z n) [
  | inl h ↦ (
      let a : renamed n p z ≡ p = ap (renamed n p) h ∙ renamed_from n p in
      let b = ap (bit u) a in
      let x = bit_other u z (λ i. ne (i ∙ h)) in
      let y = bit_same n z (sym h) in
      elim (cases_Bool (u == p)) [
        | inl t ↦ (
            let i : ◌≡◌ {A = ℕ} (cond (u == p) d 0) d = cond-true (u == p) d 0 t in
            let j : ◌≡◌ {A = ℕ} (cond (u == p) c 0) c = cond-true (u == p) c 0 t in
            let k : bit u p ≡ 1 = cond-true (u == p) 1 0 t in
            omega arith)
        | inr t ↦ (
            let i : ◌≡◌ {A = ℕ} (cond (u == p) d 0) 0 = cond-false (u == p) d 0 t in
            let j : ◌≡◌ {A = ℕ} (cond (u == p) c 0) 0 = cond-false (u == p) c 0 t in
            let k : bit u p ≡ 0 = cond-false (u == p) 1 0 t in
            omega arith)
      ])
  | inr h ↦ (
      let a : renamed n p z ≡ z = elim (renamed_case n p z) [ inl c ↦ absurd (h c.0) | inr c ↦ c ] in
      let b = ap (bit u) a in
      let y = bit_other n z (λ i. h (sym i)) in
      let w : d ≡ c = omega arith in
      let i : ◌≡◌ {A = ℕ} (cond (u == p) d 0) (cond (u == p) c 0) = ap (λ (k : ℕ). cond (u == p) k 0) w in
      omega arith)
]

pub split_counts : {ts : List Triangle} {rows : List Row} {g : Gluing} {made : ℕ} (b a nb na : Side) → IsAround ts rows g made b nb → IsAround ts rows g made a na → b ≢ a → (ds : List ℕ) → 3 * suc (length ts) ≤ length ds → AreCounts ts g ds →
    let rename = renamed (name_of ts (next b)) (name_of ts (prev a)) in
    AreCounts (map (renamed_triangle rename) ts ++ ((rename (name_of ts (prev a)), rename (name_of ts (next a)), rename (name_of ts (prev b))) ∷ [])) (glue (side (length ts) second) b (glue (side (length ts) third) a g))
    (after_split (length ts) (number b) (number a) (number nb) (number na) ds)
split_counts {ts} {rows} {g} {made} b a nb na V W ne ds room K =
    counts_grow us t f (length-map ts (renamed_triangle rename)) (glue (side f second) b (glue (side f third) a g)) (after_split f (number b) (number a) (number nb) (number na) ds) old new
  where
    N : AreNames ts rows g made
    N = W.names

    f : ℕ
    f = length ts

    n : ℕ
    n = name_of ts (next b)

    p : ℕ
    p = name_of ts (prev a)

    q : ℕ
    q = name_of ts (next a)

    z : ℕ
    z = name_of ts (prev b)

    rename : ℕ → ℕ
    rename = renamed n p

    us : List Triangle
    us = map (renamed_triangle rename) ts

    t : Triangle
    t = (rename p, rename q, rename z)

    ps : Pairs
    ps = (second, b) ∷ (third, a) ∷ []

    apart : PairsAreApart f g ps
    apart = (V.free, (ne, tt), ((λ e. (cc)), tt), (W.free, tt, tt, tt))

    one : List ℕ
    one = degree_raised (number nb) 1 ds

    merged : List ℕ
    merged = degree_raised (number na) (get_or one (number b) 0) one

    one_reads : (s : Side) → IsFree f g s → get_or one (number s) 0 ≡ suc (count (name_of ts (next s)) ts) + bit (name_of ts (next s)) z
    one_reads s S =
        let l = number-lt nb f V.after_free.within in
        let x = raised_is N b nb s V.after_free V.meets S 1 ds (omega arith) in
        let k = K s S in
        omega arith

    reads : (s : Side) → IsFree f g s →
        get_or merged (number s) 0 ≡ suc (count (name_of ts (next s)) ts) + bit (name_of ts (next s)) z + cond (name_of ts (next s) == p) (get_or one (number b) 0) 0
    reads s S =
        let l = number-lt na f W.after_free.within in
        let m = length-raised (number nb) 1 ds in
        let x = raised_is N a na s W.after_free W.meets S (get_or one (number b) 0) one (omega arith) in
        let y = one_reads s S in
        omega arith

    kept : (u : ℕ) → u ≢ n → rename u ≡ u
    kept u h = elim (renamed_case n p u) [ inl c ↦ absurd (h c.0) | inr c ↦ c ]

    to_p : rename p ≡ p
    to_p = elim (renamed_case n p p) [ inl c ↦ c.1 | inr c ↦ c ]

    q_is : rename q ≡ q
    q_is = kept q (λ e. ne (sym (one_start N a b W.free V.free e)))

    -- at a vertex of its own name
    sums : (u : ℕ) → u ≢ n → suc (count u ts) + bit u z + cond (u == p) (get_or one (number b) 0) 0 + bit u q ≡ suc (count u us + (bit u p + bit u q + bit u (rename z)))
    sums u h =
        let x = count_renamed n p u ts h in
        let d = one_reads b V.free in
        let y = brings n p p z u (suc (count n ts)) (get_or one (number b) 0) h d in
        let w : cond (u == p) (suc (count n ts)) 0 ≡ cond (u == p) (count n ts) 0 + bit u p = rise (u == p) (count n ts) in
        omega arith
      where
        rise : (t : Bool) (c : ℕ) → cond t (suc c) 0 ≡ cond t c 0 + cond t 1 0
        rise true c = omega arith
        rise false c = omega arith

    told : (u : ℕ) → times_in u t ≡ bit u p + bit u q + bit u (rename z)
    told u =
        let x = ap (bit u) to_p in
        let y = ap (bit u) q_is in
        omega arith

    old : (s : Side) → s.face < f → IsFree (suc f) (glue_all f ps g) s → get_or (after_split f (number b) (number a) (number nb) (number na) ds) (number s) 0 ≡ suc (count (name_of us (next s)) us + times_in (name_of us (next s)) t)
    old s l S =
        let O = was_free N ps apart s l S in
        let u = name_of ts (next s) in
        let low = number-lt s f l in
        let other : u ≢ n = λ e. O.1.0 (one_start N s b O.0 V.free e) in
        let y = read_by merged (3 * f) (number s) (get_or merged (number a) 0 + 1) (λ e. absurd (omega arith)) in
        let x = reads s O.0 in
        let c = bit_other u q (λ e. O.1.1.0 (one_start N s a O.0 W.free e)) in
        let v = sums u other in
        let w = told u in
        let here : get_or (after_split f (number b) (number a) (number nb) (number na) ds) (number s) 0 ≡ suc (count u us + times_in u t) = omega arith in
        let name : name_of us (next s) ≡ u = name_renamed (next s) l ∙ kept u other in
        here ∙ ap (λ (v : ℕ). suc (count v us + times_in v t)) (sym name)
      where
        name_renamed : (c : Side) → c.face < f → name_of us c ≡ rename (name_of ts c)
        name_renamed c h =
            let k : c.face < length us = (let e = length-map ts (renamed_triangle rename) in omega arith) in
            ap (λ (u : Triangle). corner u c.place) (sym (get_or-before_last us t no_triangle c.face k)) ∙ name_old rename ts t c h

    new : (k : Place) → IsFree (suc f) (glue_all f ps g) (side f k) → get_or (after_split f (number b) (number a) (number nb) (number na) ds) (number (side f k)) 0 ≡ suc (count (corner t (place_after k)) us + times_in (corner t (place_after k)) t)
    new first S =
        let l = length-raised (number nb) 1 ds in
        let m = length-raised (number na) (get_or one (number b) 0) one in
        let y = read_at merged (3 * f) (number (side f first)) (get_or merged (number a) 0 + 1) (omega arith) (omega arith) in
        let x = reads a W.free in
        let other : q ≢ n = λ e. ne (sym (one_start N a b W.free V.free e)) in
        let c = bit_same q q refl in
        let v = sums q other in
        let w = told q in
        let here : get_or (after_split f (number b) (number a) (number nb) (number na) ds) (number (side f first)) 0 ≡ suc (count q us + times_in q t) = omega arith in
        here ∙ ap (λ (v : ℕ). suc (count v us + times_in v t)) (sym q_is)
    new second S = absurd ((is_left N ps apart second S).0 refl)
    new third S = absurd ((is_left N ps apart third S).1.0 refl)
