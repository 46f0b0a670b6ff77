-- The names after each rule, and what the named machine finds where the other looks at free sides.
use Rattle.std.proofs.Common.{◌≡◌, ◌≢◌, ℕ, suc, ◌+◌, ◌<◌, Bool, true, false, ◌==◌, List, [], ◌∷◌, ◌++◌, length, map, Option, Some, None, ◌⊎◌, inl, inr, sym, refl, ap, ◌∙◌, subst, arith, eqb-true, eq-eqb}
use Rattle.std.proofs.lemmas.Bool.{cases_Bool, cases_eq, cond-true, cond-false}
use Rattle.std.proofs.lemmas.List.{append-nil, map-id}
use Rattle.corner_table.specs.Sides.{Side, Place, first, second, third, side, same, next, prev, Gluing, glue, unglued, IsFree}
use Rattle.corner_table.specs.Fans.{InFan, here, leftwards, rightwards, side_before}
use Rattle.corner_table.proofs.Places.{same-true, same_refl}
use Rattle.corner_table.proofs.Walks.{fan_trans, fan_sym}
use Rattle.corner_table.proofs.Gluings.{unglued_is, ends_join, starts_join, fan_stays}
use Rattle.corner_table.proofs.Boundary.{side_before-follows, side_before_only}
use Rattle.eb_machine.specs.declared.beside.Beside.{Beside}
use Rattle.eb_machine.specs.declared.beside.Beside.TheVariants.{Left, Right}
use Rattle.eb_machine.specs.Beside.{glued_place, free_place, new_triangle}
use Rattle.eb_machine.specs.Named.{Triangle, corner, Row, new_row, row_at_side, row_before, without, renamed, renamed_triangle, renamed_row}
use Rattle.eb_machine.specs.Shown.{name_of, row_named, AreNames}
use Rattle.eb_machine.proofs.RowLists.{found}
use Rattle.eb_machine.specs.OneFaceMore.{Pairs, glue_all, IsOtherPlace, PairsAreApart, Touches, more_triangles, without_all, new_rows, HasPlace, IsNewName, Grows}
use Rattle.eb_machine.proofs.ManyGlued.{all_gluing, all_stay, new_is_free, old_is_free}
use Rattle.eb_machine.proofs.Naming.{names_grow}

-- the row of a free side
pub row_is : {ts : List Triangle} {rows : List Row} {g : Gluing} {made : ℕ} → AreNames ts rows g made → (a : Side) → IsFree (length ts) g a → row_at_side a rows ≡ Some (row_named ts a)
row_is {ts} {rows} {g} {made} N a A = elim (found (λ (r : Row). same r.side a) rows) [
  | inl n ↦ absurd (let no : true ≡ false = sym (same_refl a) ∙ n.1 (row_named ts a) (N.sides_are a A) in cc)
  | inr s ↦ s.1 ∙ ap {A = Row} Some ((N.rows_are s.0 s.2).1 ∙ ap (row_named ts) (same-true s.0.side a s.3))
]

-- a glued side has none
pub no_row : {ts : List Triangle} {rows : List Row} {g : Gluing} {made : ℕ} → AreNames ts rows g made → (a b : Side) → g a ≡ Some b → row_at_side a rows ≡ None
no_row {ts} {rows} {g} {made} N a b e = elim (found (λ (r : Row). same r.side a) rows) [
  | inl n ↦ n.0
  | inr s ↦ absurd (let no : None ≡ Some b = sym (N.rows_are s.0 s.2).0.free ∙ ap g (same-true s.0.side a s.3) ∙ e in cc)
]

-- the row that ends where a free side starts is that of the free side before it
pub row_before_is : {ts : List Triangle} {rows : List Row} {g : Gluing} {made : ℕ} → AreNames ts rows g made → (a : Side) → IsFree (length ts) g a → row_before (row_named ts a) rows ≡ row_named ts (side_before (length ts) g a)
row_before_is {ts} {rows} {g} {made} N a A =
    let b = side_before (length ts) g a in
    let F = side_before-follows N.gluing a A in
    let meet : name_of ts (prev b) ≡ name_of ts (next a) = N.one_name (prev b) (next a) F.1.meets in
    elim (found (λ (r : Row). r.to == name_of ts (next a)) rows) [
      | inl n ↦ absurd (let no : true ≡ false = sym (eq-eqb (name_of ts (prev b)) (name_of ts (next a)) meet) ∙ n.1 (row_named ts b) (N.sides_are b F.0) in cc)
      | inr s ↦ (
          let u = N.rows_are s.0 s.2 in
          let ends : name_of ts (prev s.0.side) ≡ name_of ts (next a) = ap (λ (r : Row). r.to) (sym u.1) ∙ eqb-true s.0.to (name_of ts (next a)) s.3 in
          let is : s.0.side ≡ b = side_before_only N.gluing s.0.side a u.0 (record { free = A; meets = N.one_fan (prev s.0.side) (next a) u.0.within A.within ends }) in
          ap (λ (o : Option Row). let x : Row = elim o [ None ↦ row_named ts a | Some t ↦ t ] in x) s.1 ∙ u.1 ∙ ap (row_named ts) is)
    ]

-- it is a free side that ends at the vertex where the other starts
pub before_ends : {ts : List Triangle} {rows : List Row} {g : Gluing} {made : ℕ} → AreNames ts rows g made → (a : Side) → IsFree (length ts) g a →
    IsFree (length ts) g (side_before (length ts) g a) × (name_of ts (prev (side_before (length ts) g a)) ≡ name_of ts (next a))
before_ends {ts} {rows} {g} {made} N a A = let F = side_before-follows N.gluing a A in (F.0, N.one_name (prev (side_before (length ts) g a)) (next a) F.1.meets)

one_truth : (t u : Bool) → (t ≡ true → u ≡ true) → (u ≡ true → t ≡ true) → t ≡ u
one_truth true u f h = sym (f refl)
one_truth false true f h = h refl
one_truth false false f h = refl

-- one row starts where another ends, by names and by sides
pub one_point_is : {ts : List Triangle} {rows : List Row} {g : Gluing} {made : ℕ} → AreNames ts rows g made → (b a : Side) → IsFree (length ts) g b → IsFree (length ts) g a →
    (name_of ts (next b) == name_of ts (prev a)) ≡ same (side_before (length ts) g b) a
one_point_is {ts} {rows} {g} {made} N b a B A = one_truth _ _
    (λ e. ap (λ (x : Side). same x a) (sym (side_before_only N.gluing a b A (record { free = B; meets = N.one_fan (prev a) (next b) A.within B.within (sym (eqb-true (name_of ts (next b)) (name_of ts (prev a)) e)) }))) ∙ same_refl a)
    (λ e. eq-eqb (name_of ts (next b)) (name_of ts (prev a)) (sym (before_ends N b B).1 ∙ ap (λ (x : Side). name_of ts (prev x)) (same-true (side_before (length ts) g b) a e)))

-- nothing is built
pub names_start : AreNames [] [] unglued 0
names_start = record {
  gluing = unglued_is 0;
  rows_are = λ r m. absurd m;
  sides_are = λ a A. absurd (let w : a.face < 0 = A.within in omega arith);
  one_name = lone;
  one_fan = λ c d h k e. absurd (let w : c.face < 0 = h in omega arith);
  below = λ c h. absurd (let w : c.face < 0 = h in omega arith);
}
  where
    lone : (c d : Side) → InFan unglued c d → name_of [] c ≡ name_of [] d
    lone c d here = refl
    lone c d (leftwards {d = x} s w) = absurd (let no : None ≡ Some x = s in cc)
    lone c d (rightwards {d = x} s w) = absurd (let no : None ≡ Some x = s in cc)

-- a face more without a renaming
pub plain_grow : (ts : List Triangle) (rows : List Row) (g : Gluing) (made made' : ℕ) (t : Triangle) (ps : Pairs) (ks : List Place) → Grows ts rows g made made' (λ m. m) t ps ks →
    AreNames (ts ++ (t ∷ [])) (without_all ps rows ++ new_rows (length ts) t ks) (glue_all (length ts) ps g) made'
plain_grow ts rows g made made' t ps ks W =
    subst (λ (us : List Triangle). AreNames (us ++ (t ∷ [])) (without_all ps rows ++ new_rows (length ts) t ks) (glue_all (length ts) ps g) made') (map-id ts)
    (subst (λ (qs : List Row). AreNames (more_triangles (λ m. m) ts t) (qs ++ new_rows (length ts) t ks) (glue_all (length ts) ps g) made') (map-id (without_all ps rows))
    (names_grow ts rows g made made' (λ m. m) t ps ks W))

-- E
pub end_names : {ts : List Triangle} {rows : List Row} {g : Gluing} {made : ℕ} → AreNames ts rows g made → let t : Triangle = (made, made + 1, made + 2) in let f = length ts in
    AreNames (ts ++ (t ∷ [])) (rows ++ (new_row f t first ∷ new_row f t second ∷ new_row f t third ∷ [])) g (made + 3)
end_names {ts} {rows} {g} {made} N = plain_grow ts rows g made (made + 3) t [] (first ∷ second ∷ third ∷ []) (record {
  names = N;
  apart = tt;
  fits = tt;
  left = left;
  left_only = λ k h. tt;
  merged = N.one_fan;
  corners = λ k. inr (old k, other k);
  below_old = λ m h. omega arith;
  below_new = below;
})
  where
    t : Triangle
    t = (made, made + 1, made + 2)

    left : (k : Place) → IsOtherPlace k [] → HasPlace k (first ∷ second ∷ third ∷ [])
    left first h = inl refl
    left second h = inr (inl refl)
    left third h = inr (inr (inl refl))

    old : (k : Place) (c : Side) → c.face < length ts → name_of ts c ≢ corner t k
    old first c h e = let b = N.below c h in absurd (let q : name_of ts c ≡ made = e in omega arith)
    old second c h e = let b = N.below c h in absurd (let q : name_of ts c ≡ made + 1 = e in omega arith)
    old third c h e = let b = N.below c h in absurd (let q : name_of ts c ≡ made + 2 = e in omega arith)

    other : (k j : Place) → j ≢ k → corner t j ≢ corner t k
    other first first h e = h refl
    other first second h e = absurd (let q : made + 1 ≡ made = e in omega arith)
    other first third h e = absurd (let q : made + 2 ≡ made = e in omega arith)
    other second first h e = absurd (let q : made ≡ made + 1 = e in omega arith)
    other second second h e = h refl
    other second third h e = absurd (let q : made + 2 ≡ made + 1 = e in omega arith)
    other third first h e = absurd (let q : made ≡ made + 2 = e in omega arith)
    other third second h e = absurd (let q : made + 1 ≡ made + 2 = e in omega arith)
    other third third h e = h refl

    below : (k : Place) → corner t k < made + 3
    below first = omega arith
    below second = omega arith
    below third = omega arith

-- R: a new vertex at corner 2
pub right_names : {ts : List Triangle} {rows : List Row} {g : Gluing} {made : ℕ} → AreNames ts rows g made → (a : Side) → IsFree (length ts) g a → let t : Triangle = (name_of ts (prev a), name_of ts (next a), made) in let f = length ts in
    AreNames (ts ++ (t ∷ [])) (without a rows ++ (new_row f t first ∷ new_row f t second ∷ [])) (glue (side f third) a g) (made + 1)
right_names {ts} {rows} {g} {made} N a A = plain_grow ts rows g made (made + 1) t ((third, a) ∷ []) (first ∷ second ∷ []) (record {
  names = N;
  apart = (A, tt, tt, tt);
  fits = (refl, refl, tt);
  left = left;
  left_only = left_only;
  merged = λ c d h k e. all_stay N.gluing ((third, a) ∷ []) (A, tt, tt, tt) (N.one_fan c d h k e);
  corners = corners;
  below_old = λ m h. omega arith;
  below_new = below;
})
  where
    t : Triangle
    t = (name_of ts (prev a), name_of ts (next a), made)

    left : (k : Place) → IsOtherPlace k ((third, a) ∷ []) → HasPlace k (first ∷ second ∷ [])
    left first h = inl refl
    left second h = inr (inl refl)
    left third h = absurd (h.0 refl)

    left_only : (k : Place) → HasPlace k (first ∷ second ∷ []) → IsOtherPlace k ((third, a) ∷ [])
    left_only first h = ((λ e. (cc)), tt)
    left_only second h = ((λ e. (cc)), tt)
    left_only third h = elim h [ inl e ↦ absurd (cc) | inr m ↦ elim m [ inl e ↦ absurd (cc) | inr n ↦ absurd n ] ]

    fresh : (j : Place) → j ≢ third → corner t j ≢ made
    fresh first h e = let b = N.below (prev a) A.within in absurd (let q : name_of ts (prev a) ≡ made = e in omega arith)
    fresh second h e = let b = N.below (next a) A.within in absurd (let q : name_of ts (next a) ≡ made = e in omega arith)
    fresh third h e = h refl

    corners : (k : Place) → Touches k ((third, a) ∷ []) ⊎ IsNewName ts (λ m. m) t k
    corners first = inl (inl refl)
    corners second = inl (inr (inl refl))
    corners third = inr ((λ c h e. (let b = N.below c h in absurd (let q : name_of ts c ≡ made = e in omega arith))), fresh)

    below : (k : Place) → corner t k < made + 1
    below first = let b = N.below (prev a) A.within in omega arith
    below second = let b = N.below (next a) A.within in omega arith
    below third = omega arith

-- L: a new vertex at corner 1
pub left_names : {ts : List Triangle} {rows : List Row} {g : Gluing} {made : ℕ} → AreNames ts rows g made → (a : Side) → IsFree (length ts) g a → let t : Triangle = (name_of ts (next a), made, name_of ts (prev a)) in let f = length ts in
    AreNames (ts ++ (t ∷ [])) (without a rows ++ (new_row f t first ∷ new_row f t third ∷ [])) (glue (side f second) a g) (made + 1)
left_names {ts} {rows} {g} {made} N a A = plain_grow ts rows g made (made + 1) t ((second, a) ∷ []) (first ∷ third ∷ []) (record {
  names = N;
  apart = (A, tt, tt, tt);
  fits = (refl, refl, tt);
  left = left;
  left_only = left_only;
  merged = λ c d h k e. all_stay N.gluing ((second, a) ∷ []) (A, tt, tt, tt) (N.one_fan c d h k e);
  corners = corners;
  below_old = λ m h. omega arith;
  below_new = below;
})
  where
    t : Triangle
    t = (name_of ts (next a), made, name_of ts (prev a))

    left : (k : Place) → IsOtherPlace k ((second, a) ∷ []) → HasPlace k (first ∷ third ∷ [])
    left first h = inl refl
    left second h = absurd (h.0 refl)
    left third h = inr (inl refl)

    left_only : (k : Place) → HasPlace k (first ∷ third ∷ []) → IsOtherPlace k ((second, a) ∷ [])
    left_only first h = ((λ e. (cc)), tt)
    left_only second h = elim h [ inl e ↦ absurd (cc) | inr m ↦ elim m [ inl e ↦ absurd (cc) | inr n ↦ absurd n ] ]
    left_only third h = ((λ e. (cc)), tt)

    fresh : (j : Place) → j ≢ second → corner t j ≢ made
    fresh first h e = let b = N.below (next a) A.within in absurd (let q : name_of ts (next a) ≡ made = e in omega arith)
    fresh second h e = h refl
    fresh third h e = let b = N.below (prev a) A.within in absurd (let q : name_of ts (prev a) ≡ made = e in omega arith)

    corners : (k : Place) → Touches k ((second, a) ∷ []) ⊎ IsNewName ts (λ m. m) t k
    corners first = inl (inr (inl refl))
    corners second = inr ((λ c h e. (let b = N.below c h in absurd (let q : name_of ts c ≡ made = e in omega arith))), fresh)
    corners third = inl (inl refl)

    below : (k : Place) → corner t k < made + 1
    below first = let b = N.below (next a) A.within in omega arith
    below second = omega arith
    below third = let b = N.below (prev a) A.within in omega arith

-- L and R as one
pub beside_names : {ts : List Triangle} {rows : List Row} {g : Gluing} {made : ℕ} (b : Beside) → AreNames ts rows g made → (a : Side) → IsFree (length ts) g a → let t : Triangle = new_triangle b (name_of ts (next a)) (name_of ts (prev a)) made in let f = length ts in
    AreNames (ts ++ (t ∷ [])) (without a rows ++ (new_row f t first ∷ new_row f t (free_place b) ∷ [])) (glue (side f (glued_place b)) a g) (made + 1)
beside_names Left N a A = left_names N a A
beside_names Right N a A = right_names N a A

-- C: the new face has the vertices of the top row and of the row before it
pub tip_names : {ts : List Triangle} {rows : List Row} {g : Gluing} {made : ℕ} → AreNames ts rows g made → (a b : Side) → IsFree (length ts) g a → IsFree (length ts) g b → b ≢ a → name_of ts (prev b) ≡ name_of ts (next a) →
    let t : Triangle = (name_of ts (next a), name_of ts (next b), name_of ts (prev a)) in let f = length ts in
    AreNames (ts ++ (t ∷ [])) (without b (without a rows) ++ (new_row f t first ∷ [])) (glue (side f third) b (glue (side f second) a g)) made
tip_names {ts} {rows} {g} {made} N a b A B ne e = plain_grow ts rows g made made t ((third, b) ∷ (second, a) ∷ []) (first ∷ []) (record {
  names = N;
  apart = apart;
  fits = (refl, sym e, (refl, refl, tt));
  left = left;
  left_only = left_only;
  merged = λ c d h k q. all_stay N.gluing ((third, b) ∷ (second, a) ∷ []) apart (N.one_fan c d h k q);
  corners = λ k. inl (touched k);
  below_old = λ m h. h;
  below_new = below;
})
  where
    t : Triangle
    t = (name_of ts (next a), name_of ts (next b), name_of ts (prev a))

    apart : PairsAreApart (length ts) g ((third, b) ∷ (second, a) ∷ [])
    apart = (B, (ne, tt), ((λ q. (cc)), tt), (A, tt, tt, tt))

    left : (k : Place) → IsOtherPlace k ((third, b) ∷ (second, a) ∷ []) → HasPlace k (first ∷ [])
    left first h = inl refl
    left second h = absurd (h.1.0 refl)
    left third h = absurd (h.0 refl)

    left_only : (k : Place) → HasPlace k (first ∷ []) → IsOtherPlace k ((third, b) ∷ (second, a) ∷ [])
    left_only first h = ((λ q. (cc)), ((λ q. (cc)), tt))
    left_only second h = elim h [ inl q ↦ absurd (cc) | inr n ↦ absurd n ]
    left_only third h = elim h [ inl q ↦ absurd (cc) | inr n ↦ absurd n ]

    touched : (k : Place) → Touches k ((third, b) ∷ (second, a) ∷ [])
    touched first = inl refl
    touched second = inr (inl refl)
    touched third = inr (inr (inl refl))

    below : (k : Place) → corner t k < made
    below first = N.below (next a) A.within
    below second = N.below (next b) B.within
    below third = N.below (prev a) A.within

-- the renaming of n to p
pub renamed_from : (n p : ℕ) → renamed n p n ≡ p
renamed_from n p = cond-true (n == n) p n (eq-eqb n n refl)

pub renamed_to : (n p : ℕ) → renamed n p p ≡ p
renamed_to n p = elim (cases_eq p n) [
  | inl e ↦ cond-true (p == n) p p (eq-eqb p n e)
  | inr e ↦ elim (cases_Bool (p == n)) [ inl t ↦ cond-true _ _ _ t | inr t ↦ cond-false _ _ _ t ]
]

pub renamed_case : (n p v : ℕ) → ((v ≡ n) × (renamed n p v ≡ p)) ⊎ (renamed n p v ≡ v)
renamed_case n p v = elim (cases_Bool (v == n)) [ inl t ↦ inl (eqb-true v n t, cond-true _ _ _ t) | inr t ↦ inr (cond-false _ _ _ t) ]

pub renamed_below : (n p m made : ℕ) → p < made → m < made → renamed n p m < made
renamed_below n p m made h k = elim (renamed_case n p m) [ inl c ↦ subst (λ (v : ℕ). v < made) (sym c.1) h | inr c ↦ subst (λ (v : ℕ). v < made) (sym c) k ]

-- S: the vertex at which b starts becomes the one at which a ends
pub split_names : {ts : List Triangle} {rows : List Row} {g : Gluing} {made : ℕ} → AreNames ts rows g made → (b a : Side) → IsFree (length ts) g b → IsFree (length ts) g a → b ≢ a →
    let rename = renamed (name_of ts (next b)) (name_of ts (prev a)) in let t : Triangle = (rename (name_of ts (prev a)), rename (name_of ts (next a)), rename (name_of ts (prev b))) in let f = length ts in
    AreNames (map (renamed_triangle rename) ts ++ (t ∷ [])) (map (renamed_row rename) (without b (without a rows)) ++ (new_row f t first ∷ [])) (glue (side f second) b (glue (side f third) a g)) made
split_names {ts} {rows} {g} {made} N b a B A ne = names_grow ts rows g made made rename t ps (first ∷ []) (record {
  names = N;
  apart = apart;
  fits = (renamed_to n p ∙ sym (renamed_from n p), refl, (refl, refl, tt));
  left = left;
  left_only = left_only;
  merged = merged;
  corners = λ k. inl (touched k);
  below_old = λ m h. renamed_below n p m made low h;
  below_new = below;
})
  where
    n : ℕ
    n = name_of ts (next b)

    p : ℕ
    p = name_of ts (prev a)

    low : p < made
    low = N.below (prev a) A.within

    rename : ℕ → ℕ
    rename = renamed n p

    t : Triangle
    t = (rename (name_of ts (prev a)), rename (name_of ts (next a)), rename (name_of ts (prev b)))

    ps : Pairs
    ps = (second, b) ∷ (third, a) ∷ []

    apart : PairsAreApart (length ts) g ps
    apart = (B, (ne, tt), ((λ q. (cc)), tt), (A, tt, tt, tt))

    left : (k : Place) → IsOtherPlace k ps → HasPlace k (first ∷ [])
    left first h = inl refl
    left second h = absurd (h.0 refl)
    left third h = absurd (h.1.0 refl)

    left_only : (k : Place) → HasPlace k (first ∷ []) → IsOtherPlace k ps
    left_only first h = ((λ q. (cc)), ((λ q. (cc)), tt))
    left_only second h = elim h [ inl q ↦ absurd (cc) | inr m ↦ absurd m ]
    left_only third h = elim h [ inl q ↦ absurd (cc) | inr m ↦ absurd m ]

    touched : (k : Place) → Touches k ps
    touched first = inr (inl refl)
    touched second = inr (inr (inr (inl refl)))
    touched third = inl refl

    below : (k : Place) → corner t k < made
    below first = renamed_below n p (name_of ts (prev a)) made low (N.below (prev a) A.within)
    below second = renamed_below n p (name_of ts (next a)) made low (N.below (next a) A.within)
    below third = renamed_below n p (name_of ts (prev b)) made low (N.below (prev b) B.within)

    -- the two vertices meet at corner 0 of the new face
    across : InFan (glue_all (length ts) ps g) (next b) (prev a)
    across =
        let G = all_gluing N.gluing ps apart in
        fan_trans (fan_sym G (ends_join (side (length ts) second) b (glue (side (length ts) third) a g)))
        (fan_stays {faces = suc (length ts)} {g = glue (side (length ts) third) a g} (side (length ts) second) b
        (new_is_free N.gluing ((third, a) ∷ []) second (A, tt, tt, tt) ((λ q. (cc)), tt)) (old_is_free (length ts) g ((third, a) ∷ []) b B (ne, tt))
        (starts_join (side (length ts) third) a g))

    stay : (c d : Side) → c.face < length ts → d.face < length ts → name_of ts c ≡ name_of ts d → InFan (glue_all (length ts) ps g) c d
    stay c d h k e = all_stay N.gluing ps apart (N.one_fan c d h k e)

    merged : (c d : Side) → c.face < length ts → d.face < length ts → rename (name_of ts c) ≡ rename (name_of ts d) → InFan (glue_all (length ts) ps g) c d
    merged c d h k e = elim (renamed_case n p (name_of ts c)) [
      | inl x ↦ elim (renamed_case n p (name_of ts d)) [
        | inl y ↦ stay c d h k (x.0 ∙ sym y.0)
        | inr y ↦ fan_trans (stay c (next b) h B.within x.0) (fan_trans across (stay (prev a) d A.within k (sym x.1 ∙ e ∙ y)))
      ]
      | inr x ↦ elim (renamed_case n p (name_of ts d)) [
        | inl y ↦ fan_trans (stay c (prev a) h A.within (sym x ∙ e ∙ y.1)) (fan_trans (fan_sym (all_gluing N.gluing ps apart) across) (stay (next b) d B.within k (sym y.0)))
        | inr y ↦ stay c d h k (sym x ∙ e ∙ y)
      ]
    ]

-- a close: the new face has the vertices of the loop's three rows
pub fill_names : {ts : List Triangle} {rows : List Row} {g : Gluing} {made : ℕ} → AreNames ts rows g made → (a b c : Side) → IsFree (length ts) g a → IsFree (length ts) g b → IsFree (length ts) g c → b ≢ a → c ≢ a → c ≢ b →
    name_of ts (prev b) ≡ name_of ts (next a) → name_of ts (prev c) ≡ name_of ts (next b) → name_of ts (next c) ≡ name_of ts (prev a) →
    let t : Triangle = (name_of ts (next b), name_of ts (prev a), name_of ts (next a)) in let f = length ts in
    AreNames (ts ++ (t ∷ [])) (without c (without b (without a rows))) (glue (side f third) c (glue (side f second) b (glue (side f first) a g))) made
fill_names {ts} {rows} {g} {made} N a b c A B X ba ca cb u v w =
    subst (λ (qs : List Row). AreNames (ts ++ (t ∷ [])) qs (glue_all (length ts) ps g) made) (append-nil (without c (without b (without a rows))))
    (plain_grow ts rows g made made t ps [] (record {
      names = N;
      apart = apart;
      fits = (sym w, sym v, (refl, sym u, (refl, refl, tt)));
      left = left;
      left_only = λ k h. absurd h;
      merged = λ x y h k q. all_stay N.gluing ps apart (N.one_fan x y h k q);
      corners = λ k. inl (touched k);
      below_old = λ m h. h;
      below_new = below;
    }))
  where
    t : Triangle
    t = (name_of ts (next b), name_of ts (prev a), name_of ts (next a))

    ps : Pairs
    ps = (third, c) ∷ (second, b) ∷ (first, a) ∷ []

    apart : PairsAreApart (length ts) g ps
    apart = (X, (cb, (ca, tt)), ((λ q. (cc)), ((λ q. (cc)), tt)), (B, (ba, tt), ((λ q. (cc)), tt), (A, tt, tt, tt)))

    left : (k : Place) → IsOtherPlace k ps → HasPlace k []
    left first h = absurd (h.1.1.0 refl)
    left second h = absurd (h.1.0 refl)
    left third h = absurd (h.0 refl)

    touched : (k : Place) → Touches k ps
    touched first = inl refl
    touched second = inr (inl refl)
    touched third = inr (inr (inl refl))

    below : (k : Place) → corner t k < made
    below first = N.below (next b) B.within
    below second = N.below (prev a) A.within
    below third = N.below (next a) A.within
