-- Flags: what they keep, how many are wanted, and where those of an entry stand.
use Rattle.std.proofs.Common.{◌≡◌, ◌≢◌, ℕ, zero, suc, ◌+◌, ◌-◌, ◌/◌, ◌%◌, ◌<◌, ◌≤◌, Bool, true, false, cond, nat_eq, eqb, eq-eqb, eqb-true, List, [], ◌∷◌, ◌++◌, length, map, take, drop, get_or, set, ℤ, inl, inr, refl, sym, subst, ◌∙◌, ap, arith, append-nil, append_assoc, add-one}
use Rattle.std.specs.Prelude.{unsigned_abs, ◌-ℤ◌}
use Rattle.std.specs.List.{All}
use Rattle.std.proofs.lemmas.Bool.{cond-true, cond-false, cases_Bool, cases_eq}
use Rattle.std.proofs.lemmas.List.{take_all, length-take, length-append, length-map, drop_at, take_at, map_more, get_or-set_same, get_or-set_other}
use Rattle.std.proofs.lemmas.List.Elements.{All-nil, All-cons, All-head, All-tail}
use Rattle.corner_table.specs.declared.corner_lists.FaceAcross.{FaceAcross}
use Rattle.corner_table.specs.Ordered.{Ordered, IsBelow}
use Rattle.predict.specs.Gathered.{gathered}
use Rattle.predict.specs.Multi.{by_many, kept, wanted, flags_for, multi, marks, marked, AreMarked, HasFlags, LacksFlags, off_by, is_left_out}
use Rattle.predict.specs.Entry.{Foretells, AreUsed, LacksNext, ForetellsAll, flags_put}
use Rattle.predict.proofs.Entries.{entry_of, component_of}
use Rattle.predict.proofs.Around.{gathered_few}

-- the next flag keeps its face or leaves it out
pub kept_more : (flags : List Bool) (faces : List FaceAcross) (i : ℕ) (d : Bool) (t : FaceAcross) → i < length flags → length flags ≡ length faces
    → kept (take (i + 1) flags) (take (i + 1) faces) ≡ kept (take i flags) (take i faces) ++ cond (get_or flags i d) [] (get_or faces i t ∷ [])
kept_more flags faces i d t has same = rw (add-one i) (go flags faces i d t has same)
  where
    front : (f : Bool) (t : FaceAcross) (xs ys : List FaceAcross) → cond f (xs ++ ys) (t ∷ xs ++ ys) ≡ cond f xs (t ∷ xs) ++ ys
    front true t xs ys = refl
    front false t xs ys = refl

    alone : (f : Bool) (t : FaceAcross) → cond f [] (t ∷ []) ≡ [] ++ cond f [] (t ∷ [])
    alone f t = refl

    go : (flags : List Bool) (faces : List FaceAcross) (i : ℕ) (d : Bool) (t : FaceAcross) → i < length flags → length flags ≡ length faces
        → kept (take (suc i) flags) (take (suc i) faces) ≡ kept (take i flags) (take i faces) ++ cond (get_or flags i d) [] (get_or faces i t ∷ [])
    go [] faces i d t has same = absurd (omega arith)
    go (f ∷ flags) [] i d t has same = absurd (omega arith)
    go (f ∷ flags) (x ∷ faces) zero d t has same = refl
    go (f ∷ flags) (x ∷ faces) (suc i) d t has same =
        let h = go flags faces i d t (omega arith) (omega arith) in
        ap (λ (l : List FaceAcross). cond f l (x ∷ l)) h ∙ front f x (kept (take i flags) (take i faces)) (cond (get_or flags i d) [] (get_or faces i t ∷ []))

-- what is kept is among what was found
pub kept_few : (flags : List Bool) (faces : List FaceAcross) → length (kept flags faces) ≤ length faces
kept_few [] faces = omega arith
kept_few (f ∷ flags) [] = omega arith
kept_few (f ∷ flags) (t ∷ faces) = of f (kept_few flags faces)
  where
    of : (f : Bool) → length (kept flags faces) ≤ length faces → length (cond f (kept flags faces) (t ∷ kept flags faces)) ≤ suc (length faces)
    of true h = omega arith
    of false h = omega arith

pub kept_below : (e : ℕ) (flags : List Bool) (faces : List FaceAcross) → All (IsBelow e) faces → All (IsBelow e) (kept flags faces)
kept_below e [] faces below = All-nil (IsBelow e)
kept_below e (f ∷ flags) [] below = All-nil (IsBelow e)
kept_below e (f ∷ flags) (t ∷ faces) below = of f (kept_below e flags faces (All-tail (IsBelow e) t faces below))
  where
    of : (f : Bool) → All (IsBelow e) (kept flags faces) → All (IsBelow e) (cond f (kept flags faces) (t ∷ kept flags faces))
    of true rest = rest
    of false rest = All-cons (IsBelow e) t (kept flags faces) (All-head (IsBelow e) t faces below) rest

-- the test of two numbers that aren't one
not_eq : (a b : ℕ) → a ≢ b → eqb a b ≡ false
not_eq a b n = elim (cases_Bool (eqb a b)) [ inl t ↦ absurd (n (eqb-true a b t)) | inr f ↦ f ]

-- one entry more needs flags of the list of its number of faces, and of no other
pub wanted_here : (w : Ordered) (k e : ℕ) → length (gathered w e) ≡ k → wanted w k (suc e) ≡ wanted w k e + k
unfolding wanted
wanted_here w k e h = ap (λ (n : ℕ). wanted w k e + n) (cond-true (nat_eq (length (gathered w e)) k) k 0 (eq-eqb (length (gathered w e)) k h))

pub wanted_there : (w : Ordered) (k e : ℕ) → length (gathered w e) ≢ k → wanted w k (suc e) ≡ wanted w k e
unfolding wanted
wanted_there w k e h =
    ap (λ (n : ℕ). wanted w k e + n) (cond-false (nat_eq (length (gathered w e)) k) k 0 (not_eq (length (gathered w e)) k h)) ∙ (let z : wanted w k e + 0 ≡ wanted w k e = omega arith in z)

pub wanted_none : (w : Ordered) (k : ℕ) → wanted w k 0 ≡ 0
unfolding wanted
wanted_none w k = refl

-- more entries need no fewer flags
pub wanted_grows : (w : Ordered) (k e n : ℕ) → e ≤ n → wanted w k e ≤ wanted w k n
wanted_grows w k e zero h = let z : e ≡ zero = omega arith in rw z (omega arith)
wanted_grows w k e (suc n) h = elim (cases_eq e (suc n)) [
  | inl q ↦ rw q (omega arith)
  | inr q ↦
      let m = wanted_grows w k e n (omega arith) in
      elim (cases_eq (length (gathered w n)) k) [
        | inl y ↦ let s = wanted_here w k n y in omega arith
        | inr y ↦ let s = wanted_there w k n y in omega arith
      ]
]

-- the prediction with flags foretells an entry from the faces that its flags keep
pub foretells_many : (w : Ordered) (comps : ℕ) (lists : List (List Bool)) (e : ℕ) → Foretells (multi w comps lists) comps e (by_many comps (kept (flags_for w lists e) (gathered w e)))
unfolding multi
foretells_many w comps lists e j before h len =
    let k : length before / comps ≡ e = entry_of comps e j (length before) h len in
    let m : length before % comps ≡ j = component_of comps e j (length before) h len in
    rw (k, m) refl

-- one component more of what a prediction is off
pub off_more : (p x : ℕ → ℤ) (j s d : ℕ) → d ≡ unsigned_abs (p j -ℤ x j) → s ≡ off_by p x j → s + d ≡ off_by p x (j + 1)
unfolding off_by
off_more p x j s d is so = rw (add-one j, so, is) refl

-- how far two numbers are apart
pub apart_is : (a b p x : ℤ) (d : ℕ) → d ≡ unsigned_abs (a -ℤ b) → a ≡ p → b ≡ x → d ≡ unsigned_abs (p -ℤ x)
apart_is a b p x d is q r = is ∙ ap (λ (z : ℤ). unsigned_abs (z -ℤ b)) q ∙ ap (λ (z : ℤ). unsigned_abs (p -ℤ z)) r

-- the marks that are put for one entry more
pub marked_here : (w : Ordered) (comps : ℕ) (v : List ℤ) (k e : ℕ) → length (gathered w e) ≡ k → marked w comps v k (suc e) ≡ marked w comps v k e ++ marks w comps v e
unfolding marked
marked_here w comps v k e h = ap (λ (l : List Bool). marked w comps v k e ++ l) (cond-true (nat_eq (length (gathered w e)) k) (marks w comps v e) [] (eq-eqb (length (gathered w e)) k h))

pub marked_there : (w : Ordered) (comps : ℕ) (v : List ℤ) (k e : ℕ) → length (gathered w e) ≢ k → marked w comps v k (suc e) ≡ marked w comps v k e
unfolding marked
marked_there w comps v k e h =
    ap (λ (l : List Bool). marked w comps v k e ++ l) (cond-false (nat_eq (length (gathered w e)) k) (marks w comps v e) [] (not_eq (length (gathered w e)) k h)) ∙ append-nil (marked w comps v k e)

-- there are as many marks as flags are wanted
pub length-marked : (w : Ordered) (comps : ℕ) (v : List ℤ) (k e : ℕ) → length (marked w comps v k e) ≡ wanted w k e
unfolding marked wanted
length-marked w comps v k zero = refl
length-marked w comps v k (suc e) =
    length-append (marked w comps v k e) (cond (nat_eq (length (gathered w e)) k) (marks w comps v e) [])
    ∙ ap (λ (n : ℕ). n + length (cond (nat_eq (length (gathered w e)) k) (marks w comps v e) [])) (length-marked w comps v k e)
    ∙ ap (λ (n : ℕ). wanted w k e + n) (of (nat_eq (length (gathered w e)) k) (λ t. length-map (gathered w e) (is_left_out comps v e) ∙ eqb-true (length (gathered w e)) k t))
  where
    of : (b : Bool) → (b ≡ true → length (marks w comps v e) ≡ k) → length (cond b (marks w comps v e) []) ≡ cond b k 0
    of true h = h refl
    of false h = refl

-- the marks of the entries before stay in front
pub marked_front : (w : Ordered) (comps : ℕ) (v : List ℤ) (k e n : ℕ) → e ≤ n → (rest : List Bool) × (marked w comps v k n ≡ marked w comps v k e ++ rest)
marked_front w comps v k e zero h = let z : zero ≡ e = omega arith in ([], ap (marked w comps v k) z ∙ sym (append-nil (marked w comps v k e)))
marked_front w comps v k e (suc n) h = elim (cases_eq e (suc n)) [
  | inl q ↦ ([], ap (marked w comps v k) (sym q) ∙ sym (append-nil (marked w comps v k e)))
  | inr q ↦
      let f = marked_front w comps v k e n (omega arith) in
      elim (cases_eq (length (gathered w n)) k) [
        | inl y ↦ (
          f.0 ++ marks w comps v n,
          marked_here w comps v k n y ∙ ap (λ (l : List Bool). l ++ marks w comps v n) f.1 ∙ append_assoc (marked w comps v k e) f.0 (marks w comps v n),
        )
        | inr y ↦ (f.0, marked_there w comps v k n y ∙ f.1)
      ]
]

-- of the written lists, an entry takes only its own marks
pub flags_are : (w : Ordered) (comps : ℕ) (v : List ℤ) (lists : List (List Bool)) (e n : ℕ) → AreMarked w comps v lists n → e < n → flags_for w lists e ≡ marks w comps v e
flags_are w comps v lists e n marked_lists h = at (length (gathered w e)) refl
  where
    at : (k : ℕ) → length (gathered w e) ≡ k → take k (drop (wanted w k e) (get_or lists (k - 1) [])) ≡ marks w comps v e
    at zero q = sym (none (marks w comps v e) (length-map (gathered w e) (is_left_out comps v e) ∙ q))
      where
        none : (l : List Bool) → length l ≡ 0 → l ≡ []
        none [] z = refl
        none (x ∷ l) z = absurd (omega arith)
    at (suc k) q =
        let f = marked_front w comps v (suc k) (suc e) n (omega arith) in
        let few = gathered_few w e in
        let less : suc k - 1 ≡ k = omega arith in
        let list : get_or lists k [] ≡ marked w comps v (suc k) e ++ (marks w comps v e ++ f.0) =
        marked_lists k (omega arith) ∙ f.1 ∙ ap (λ (l : List Bool). l ++ f.0) (marked_here w comps v (suc k) e q) ∙ append_assoc (marked w comps v (suc k) e) (marks w comps v e) f.0 in
        ap (λ (i : ℕ). take (suc k) (drop (wanted w (suc k) e) (get_or lists i []))) less
        ∙ ap (λ (l : List Bool). take (suc k) (drop (wanted w (suc k) e) l)) list
        ∙ ap (take (suc k)) (drop_at (marked w comps v (suc k) e) (marks w comps v e ++ f.0) (wanted w (suc k) e) (length-marked w comps v (suc k) e))
        ∙ take_at (marks w comps v e) f.0 (suc k) (length-map (gathered w e) (is_left_out comps v e) ∙ q)

-- nothing is kept of no faces
pub kept_nothing : (flags : List Bool) (faces : List FaceAcross) → length faces ≡ 0 → [] ≡ kept flags faces
kept_nothing [] faces none = refl
kept_nothing (f ∷ flags) [] none = refl
kept_nothing (f ∷ flags) (t ∷ faces) none = absurd (omega arith)

-- all flags are passed
pub kept_all : (flags : List Bool) (faces : List FaceAcross) (i : ℕ) → length flags ≡ length faces → length faces ≤ i
    → kept (take i flags) (take i faces) ≡ kept flags faces
kept_all flags faces i same done = ap (λ (fs : List Bool). kept fs (take i faces)) (take_all i flags (omega arith)) ∙ ap (kept flags) (take_all i faces done)

-- no flag is taken yet
pub used_none : (w : Ordered) (lists : List (List Bool)) (used : List ℕ) → ((k : ℕ) → k < 4 → get_or used k 0 ≡ 0) → AreUsed w lists 0 used
used_none w lists used zeros = record {
  count = λ k h. zeros k h ∙ sym (wanted_none w (suc k));
  enough = λ k h. let z = wanted_none w (suc k) in omega arith;
}

-- an entry without faces takes no flags
pub used_same : (w : Ordered) (lists : List (List Bool)) (e : ℕ) (used : List ℕ) → length (gathered w e) ≡ 0 → AreUsed w lists e used → AreUsed w lists (suc e) used
used_same w lists e used none U = record {
  count = λ k h. U.count k h ∙ sym (same_wanted k);
  enough = λ k h. let u = U.enough k h in let s = same_wanted k in omega arith;
}
  where
    same_wanted : (k : ℕ) → wanted w (suc k) (suc e) ≡ wanted w (suc k) e
    same_wanted k = wanted_there w (suc k) e (λ q. (let z = none in omega arith))

-- an entry takes its flags
pub used_more : (w : Ordered) (lists : List (List Bool)) (e k : ℕ) (used new : List ℕ) → length used ≡ 4 → k < 4 → length (gathered w e) ≡ suc k
    → new ≡ set used k (get_or used k 0 + suc k) → get_or used k 0 + suc k ≤ length (get_or lists k []) → AreUsed w lists e used → AreUsed w lists (suc e) new
used_more w lists e k used new four low here write has U = record {
  count = λ i h. elim (cases_eq i k) [
    | inl q ↦ subst (λ (x : ℕ). get_or new x 0 ≡ wanted w (suc x) (suc e)) (sym q)
        (ap (λ (l : List ℕ). get_or l k 0) write ∙ get_or-set_same used k (get_or used k 0 + suc k) 0 (omega arith) ∙ ap (λ (n : ℕ). n + suc k) (U.count k low) ∙ sym (wanted_here w (suc k) e here))
    | inr q ↦ ap (λ (l : List ℕ). get_or l i 0) write ∙ get_or-set_other used k i (get_or used k 0 + suc k) 0 q ∙ U.count i h ∙ sym (other i q)
  ];
  enough = λ i h. elim (cases_eq i k) [
    | inl q ↦ subst (λ (x : ℕ). wanted w (suc x) (suc e) ≤ length (get_or lists x [])) (sym q)
        (let s = wanted_here w (suc k) e here in let c = U.count k low in omega arith)
    | inr q ↦ (let s = other i q in let u = U.enough i h in omega arith)
  ];
}
  where
    other : (i : ℕ) → i ≢ k → wanted w (suc i) (suc e) ≡ wanted w (suc i) e
    other i q = wanted_there w (suc i) e (λ z. q (let a = here in omega arith))

-- an entry finds too few flags
pub lacks_next : (w : Ordered) (lists : List (List Bool)) (e k : ℕ) (used : List ℕ) → k < 4 → length (gathered w e) ≡ suc k
    → length (get_or lists k []) < get_or used k 0 + suc k → AreUsed w lists e used → LacksNext w lists e
lacks_next w lists e k used low here short U =
    (k, low, (let s = wanted_here w (suc k) e here in let c = U.count k low in omega arith))

-- the flags that an entry takes
pub taken_are : (w : Ordered) (lists : List (List Bool)) (e k : ℕ) (used : List ℕ) → k < 4 → length (gathered w e) ≡ suc k → AreUsed w lists e used
    → take (suc k) (drop (get_or used k 0) (get_or lists k [])) ≡ flags_for w lists e
taken_are w lists e k used low here U =
    let less : suc k - 1 ≡ k = omega arith in
    ap (λ (n : ℕ). take (suc k) (drop n (get_or lists k []))) (U.count k low)
    ∙ ap (λ (i : ℕ). take (suc k) (drop (wanted w (suc k) e) (get_or lists i []))) (sym less)
    ∙ ap (λ (n : ℕ). take n (drop (wanted w n e) (get_or lists (n - 1) []))) (sym here)

-- a list lacks flags as soon as one entry finds too few
pub lacks_flags : (w : Ordered) (lists : List (List Bool)) (e : ℕ) → e < length w.corners → LacksNext w lists e → LacksFlags w lists
lacks_flags w lists e h (k, low, short) = (k, low, (let g = wanted_grows w (suc k) (suc e) (length w.corners) (omega arith) in omega arith))

-- and none does once all entries have taken theirs
pub has_flags : (w : Ordered) (lists : List (List Bool)) (e : ℕ) (used : List ℕ) → length w.corners ≡ e → AreUsed w lists e used → HasFlags w lists
has_flags w lists e used all U k h = subst (λ (n : ℕ). wanted w (suc k) n ≤ length (get_or lists k [])) (sym all) (U.enough k h)

-- the marks of one entry more, put behind those of their list
pub marked_more : (w : Ordered) (comps : ℕ) (v : List ℤ) (lists new : List (List Bool)) (e : ℕ) → length lists ≡ 4
    → new ≡ flags_put (marks w comps v e) lists → AreMarked w comps v lists e → AreMarked w comps v new (suc e)
marked_more w comps v lists new e four write M k h = at (length (gathered w e)) refl
  where
    count : length (marks w comps v e) ≡ length (gathered w e)
    count = length-map (gathered w e) (is_left_out comps v e)

    at : (n : ℕ) → length (gathered w e) ≡ n → get_or new k [] ≡ marked w comps v (suc k) (suc e)
    at zero q =
        let none : length (marks w comps v e) ≡ 0 = count ∙ q in
        ap (λ (l : List (List Bool)). get_or l k []) (write ∙ cond-true (nat_eq (length (marks w comps v e)) 0) lists _ (eq-eqb (length (marks w comps v e)) 0 none))
        ∙ M k h ∙ sym (marked_there w comps v (suc k) e (λ z. (let a = q in omega arith)))
    at (suc n) q =
        let some : length (marks w comps v e) ≡ suc n = count ∙ q in
        let few = gathered_few w e in
        let not_none : nat_eq (length (marks w comps v e)) 0 ≡ false = not_eq (length (marks w comps v e)) 0 (λ z. (let a = some in omega arith)) in
        let less : length (marks w comps v e) - 1 ≡ n = omega arith in
        let is : new ≡ set lists n (get_or lists n [] ++ marks w comps v e) =
        write ∙ cond-false (nat_eq (length (marks w comps v e)) 0) lists _ not_none ∙ ap (λ (i : ℕ). set lists i (get_or lists i [] ++ marks w comps v e)) less in
        elim (cases_eq k n) [
          | inl y ↦ subst (λ (x : ℕ). get_or new x [] ≡ marked w comps v (suc x) (suc e)) (sym y)
              (ap (λ (l : List (List Bool)). get_or l n []) is ∙ get_or-set_same lists n (get_or lists n [] ++ marks w comps v e) [] (omega arith)
              ∙ ap (λ (l : List Bool). l ++ marks w comps v e) (M n (omega arith)) ∙ sym (marked_here w comps v (suc n) e q))
          | inr y ↦ ap (λ (l : List (List Bool)). get_or l k []) is ∙ get_or-set_other lists n k (get_or lists n [] ++ marks w comps v e) [] y ∙ M k h
              ∙ sym (marked_there w comps v (suc k) e (λ z. y (let a = q in omega arith)))
        ]

-- what is written is enough
pub marked_enough : (w : Ordered) (comps : ℕ) (v : List ℤ) (lists : List (List Bool)) → AreMarked w comps v lists (length w.corners) → HasFlags w lists
marked_enough w comps v lists M k h =
    let len = ap (λ (l : List Bool). length l) (M k h) ∙ length-marked w comps v (suc k) (length w.corners) in
    omega arith

-- and with it the prediction foretells each entry from the faces that its marks keep
pub foretells_all : (w : Ordered) (comps : ℕ) (v : List ℤ) (lists : List (List Bool)) (n : ℕ) → AreMarked w comps v lists n → ForetellsAll (multi w comps lists) w comps v n
foretells_all w comps v lists n M e h =
    subst (λ (l : List Bool). Foretells (multi w comps lists) comps e (by_many comps (kept l (gathered w e)))) (flags_are w comps v lists e n M h) (foretells_many w comps lists e)

-- no marks yet
pub marked_none : (w : Ordered) (comps : ℕ) (v : List ℤ) (lists : List (List Bool)) → ((k : ℕ) → k < 4 → get_or lists k [] ≡ []) → AreMarked w comps v lists 0
unfolding marked
marked_none w comps v lists none k h = none k h

-- one face more is marked
pub mark_more : (test : FaceAcross → Bool) (faces : List FaceAcross) (i : ℕ) (d : FaceAcross) (marks now : List Bool) (b : Bool) → i < length faces
    → marks ≡ map test (take i faces) → b ≡ test (get_or faces i d) → now ≡ marks ++ b ∷ [] → now ≡ map test (take (i + 1) faces)
mark_more test faces i d marks now b has so is push =
    push ∙ ap (λ (l : List Bool). l ++ b ∷ []) so ∙ ap (λ (x : Bool). map test (take i faces) ++ x ∷ []) is ∙ sym (map_more test faces i d has)

-- of the first i faces no more than i are kept
pub kept_long : (flags : List Bool) (faces : List FaceAcross) (i : ℕ) (now : List FaceAcross) → now ≡ kept (take i flags) (take i faces) → length now ≤ i
kept_long flags faces i now is =
    let few = kept_few (take i flags) (take i faces) in
    omega (arith, few, length-take i faces, ap (λ (l : List FaceAcross). length l) is)

-- one face more is kept or left out
pub keep_more : (flags : List Bool) (faces : List FaceAcross) (i : ℕ) (d : Bool) (t : FaceAcross) (found now : List FaceAcross) → i < length flags → length flags ≡ length faces
    → found ≡ kept (take i flags) (take i faces) → now ≡ found ++ cond (get_or flags i d) [] (get_or faces i t ∷ []) → now ≡ kept (take (i + 1) flags) (take (i + 1) faces)
keep_more flags faces i d t found now has same so push =
    push ∙ ap (λ (l : List FaceAcross). l ++ cond (get_or flags i d) [] (get_or faces i t ∷ [])) so ∙ sym (kept_more flags faces i d t has same)
