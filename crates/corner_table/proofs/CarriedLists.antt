-- The entries of a table under new numbers are those of the carried gluing.
use Rattle.std.proofs.Common.{◌≡◌, ◌≢◌, ℕ, ◌+◌, ◌*◌, ◌%◌, ◌<◌, ◌≤◌, zero, suc, eqb, List, [], ◌∷◌, ◌++◌, length, get_or, set, Some, None, inl, inr, sym, refl, ap, ◌∙◌, subst, arith, eqb-true, length-append}
use Rattle.std.proofs.lemmas.Bool.{cases_Bool, cond-true, cond-false, cases_lt, cases_eq, eq-eqb}
use Rattle.std.proofs.lemmas.List.{get_or_past, get_or_append_left, get_or_push, length-set, get_or-set_same, get_or-set_other}
use Rattle.corner_table.specs.Sides.{Side, Place, first, second, third, side, number, side_at, place_number, place_of}
use Rattle.corner_table.specs.Table.{free_entry, other_at, glued_in, IsSideTable}
use Rattle.corner_table.specs.Carried.{turned, carry, IsRenumbering, IsCarried}
use Rattle.corner_table.specs.Renumbering.{ArePlaces, placed_face, AreCarried}
use Rattle.corner_table.proofs.Places.{option_tells, Some_injective}
use Rattle.corner_table.proofs.Numbers.{number-lt, number-side_at, number_injective}
use Rattle.corner_table.proofs.TableSteps.{entry_taken}
use Rattle.corner_table.proofs.Carrying.{carry-within, carry_injective, carry_onto, carried_gluing}

-- what a renumbered table is made of
pub record IsRenumbered (faces : ℕ) (across : List ℕ) (rows : List (ℕ × ℕ)) (places now : List ℕ) : Type 0 where
  pub table : IsSideTable faces across
  pub rows_are : IsRenumbering faces rows
  pub places_are : ArePlaces faces rows places
  pub across_are : AreCarried faces rows places across now

-- the same, from numbers of faces that are equal
pub renumbered_from : {faces m k : ℕ} {across : List ℕ} {rows : List (ℕ × ℕ)} {places now : List ℕ} →
    IsSideTable faces across → faces ≡ m → k ≡ m → IsRenumbering m rows → ArePlaces k rows places →
    AreCarried k rows places across now → IsRenumbered faces across rows places now
renumbered_from {across = across} {rows = rows} {places = places} {now = now} T f g R P C = record {
  table = T;
  rows_are = subst (λ (n : ℕ). IsRenumbering n rows) (sym f) R;
  places_are = subst (λ (n : ℕ). ArePlaces n rows places) (g ∙ sym f) P;
  across_are = subst (λ (n : ℕ). AreCarried n rows places across now) (g ∙ sym f) C;
}

module _ {faces : ℕ} {across : List ℕ} {rows : List (ℕ × ℕ)} {places now : List ℕ} (T : IsRenumbered faces across rows places now) where
  no_side : other_at free_entry ≡ None
  no_side = cond-true (eqb free_entry free_entry) None (Some (side_at free_entry)) (eq-eqb free_entry free_entry refl)

  no_place : get_or places free_entry free_entry ≡ free_entry
  no_place =
      let l = T.places_are.long in
      let f = T.table.fits in
      let m = T.table.limit in
      get_or_past places free_entry free_entry (omega arith)

  -- the other side of a carried pair
  glued_from : (x z : Side) → x.face < faces → z.face < faces → glued_in across (carry rows x) ≡ Some (carry rows z) → glued_in now x ≡ Some z
  glued_from x z h k e = elim (cases_Bool (eqb (get_or across (number (carry rows x)) free_entry) free_entry)) [
    | inl t ↦ absurd (let no : None ≡ Some (carry rows z) = sym (cond-true _ _ _ t) ∙ e in cc)
    | inr t ↦ (
        let q : side_at (get_or across (number (carry rows x)) free_entry) ≡ carry rows z = Some_injective _ _ (sym (cond-false _ _ _ t) ∙ e) in
        let v : get_or across (number (carry rows x)) free_entry ≡ number (carry rows z) = sym (number-side_at (get_or across (number (carry rows x)) free_entry)) ∙ ap number q in
        let f = T.table.fits in
        let m = T.table.limit in
        ap other_at (T.across_are.entry x h ∙ ap (λ (n : ℕ). get_or places n free_entry) v ∙ T.places_are.becomes z k)
        ∙ entry_taken z faces k (omega arith))
  ]

  free_from : (x : Side) → x.face < faces → glued_in across (carry rows x) ≡ None → glued_in now x ≡ None
  free_from x h e = elim (cases_Bool (eqb (get_or across (number (carry rows x)) free_entry) free_entry)) [
    | inl t ↦
        ap other_at (T.across_are.entry x h ∙ ap (λ (n : ℕ). get_or places n free_entry) (eqb-true _ _ t) ∙ no_place)
        ∙ no_side
    | inr t ↦ absurd (let no : Some (side_at (get_or across (number (carry rows x)) free_entry)) ≡ None = sym (cond-false _ _ _ t) ∙ e in cc)
  ]

  -- what is glued was glued
  glued_was : (x y : Side) → x.face < faces → glued_in now x ≡ Some y → (y.face < faces) × (glued_in across (carry rows x) ≡ Some (carry rows y))
  glued_was x y h e = elim (option_tells (glued_in across (carry rows x))) [
    | inl n ↦ absurd (let no : None ≡ Some y = sym (free_from x h n) ∙ e in cc)
    | inr w ↦ (
        let G = T.table.gluing in
        let z = carry_onto T.rows_are w.0 (G.within w.0 (carry rows x) (G.paired (carry rows x) w.0 w.1)) in
        let p : glued_in across (carry rows x) ≡ Some (carry rows z.0) = w.1 ∙ ap {A = Side} Some (sym z.2) in
        let q : z.0 ≡ y = Some_injective _ _ (sym (glued_from x z.0 h z.1 p) ∙ e) in
        subst (λ (s : Side). (s.face < faces) × (glued_in across (carry rows x) ≡ Some (carry rows s))) q (z.1, p))
  ]

  no_entry : (x : Side) → faces ≤ x.face → glued_in now x ≡ None
  no_entry x h =
      let l = T.across_are.long in
      ap other_at (get_or_past now (number x) free_entry (omega arith))
      ∙ no_side

  -- the gluing is the carried one
  pub gluing_carried : IsCarried faces (glued_in across) rows (glued_in now)
  gluing_carried = record { pairs = λ x y h k. (λ e. (glued_was x y h e).1, λ e. glued_from x y h k e); within = within }
    where
      within : (x y : Side) → glued_in now x ≡ Some y → (x.face < faces) × (y.face < faces)
      within x y e = elim (cases_lt x.face faces) [
        | inl h ↦ (h, (glued_was x y h e).0)
        | inr h ↦ absurd (let no : None ≡ Some y = sym (no_entry x h) ∙ e in cc)
      ]

  -- so the new entries are those of a table
  pub table_carried : IsSideTable faces now
  table_carried = record {
    limit = (let l = T.across_are.long in let f = T.table.fits in let m = T.table.limit in omega arith);
    whole = (let l = T.across_are.long in omega arith);
    fits = (let l = T.across_are.long in omega arith);
    gluing = carried_gluing T.table.gluing gluing_carried;
  }

turned_number : (t : ℕ) (p : Place) → t < 3 → place_number (turned t p) ≡ (place_number p + t) % 3
turned_number zero first h = refl
turned_number zero second h = refl
turned_number zero third h = refl
turned_number (suc zero) first h = refl
turned_number (suc zero) second h = refl
turned_number (suc zero) third h = refl
turned_number (suc (suc zero)) first h = refl
turned_number (suc (suc zero)) second h = refl
turned_number (suc (suc zero)) third h = refl
turned_number (suc (suc (suc t))) p h = absurd (omega arith)

-- the number of a corner that is turned
pub turned_corner : (k t : ℕ) → k < 3 → t < 3 → (k + t) % 3 ≡ place_number (turned t (place_of k))
turned_corner zero t h l = sym (turned_number t first l)
turned_corner (suc zero) t h l = sym (turned_number t second l)
turned_corner (suc (suc zero)) t h l = sym (turned_number t third l)
turned_corner (suc (suc (suc k))) t h l = absurd (omega arith)

-- three numbers more, those of one face more
pub record IsFaceMore (of : Side → ℕ) (items : List ℕ) (i a b c : ℕ) : Type 0 where
  pub long : length items ≡ 3 * i
  pub was : (x : Side) → x.face < i → get_or items (number x) free_entry ≡ of x
  pub first_is : a ≡ of (side i first)
  pub second_is : b ≡ of (side i second)
  pub third_is : c ≡ of (side i third)

pub face_more : (of : Side → ℕ) (items : List ℕ) (i a b c : ℕ) → IsFaceMore of items i a b c →
    (x : Side) → x.face < i + 1 → get_or (((items ++ a ∷ []) ++ b ∷ []) ++ c ∷ []) (number x) free_entry ≡ of x
face_more of items i a b c M x k = elim (cases_eq x.face i) [
  | inl g ↦ (
      let s : side i x.place ≡ x = ap (λ (n : ℕ). side n x.place) (sym g) in
      subst (λ (w : Side). get_or (((items ++ a ∷ []) ++ b ∷ []) ++ c ∷ []) (number w) free_entry ≡ of w) s (new x.place))
  | inr g ↦ (
      let less : x.face < i = omega arith in
      let m = number-lt x i less in
      let l = M.long in
      get_or_append_left ((items ++ a ∷ []) ++ b ∷ []) (c ∷ []) free_entry (number x) (let l2 = long_two in omega arith)
      ∙ get_or_append_left (items ++ a ∷ []) (b ∷ []) free_entry (number x) (let l1 = long_one in omega arith)
      ∙ get_or_append_left items (a ∷ []) free_entry (number x) (omega arith)
      ∙ M.was x less)
]
  where
    long_one : length (items ++ a ∷ []) ≡ 3 * i + 1
    long_one = length-append items (a ∷ []) ∙ (let l = M.long in omega arith)

    long_two : length ((items ++ a ∷ []) ++ b ∷ []) ≡ 3 * i + 2
    long_two = length-append (items ++ a ∷ []) (b ∷ []) ∙ (let l1 = long_one in omega arith)

    new : (p : Place) → get_or (((items ++ a ∷ []) ++ b ∷ []) ++ c ∷ []) (number (side i p)) free_entry ≡ of (side i p)
    new first =
        get_or_append_left ((items ++ a ∷ []) ++ b ∷ []) (c ∷ []) free_entry (3 * i + 0) (let l2 = long_two in omega arith)
        ∙ get_or_append_left (items ++ a ∷ []) (b ∷ []) free_entry (3 * i + 0) (let l1 = long_one in omega arith)
        ∙ get_or_push items a free_entry (3 * i + 0) (let l = M.long in omega arith)
        ∙ M.first_is
    new second =
        get_or_append_left ((items ++ a ∷ []) ++ b ∷ []) (c ∷ []) free_entry (3 * i + 1) (let l2 = long_two in omega arith)
        ∙ get_or_push (items ++ a ∷ []) b free_entry (3 * i + 1) long_one
        ∙ M.second_is
    new third = get_or_push ((items ++ a ∷ []) ++ b ∷ []) c free_entry (3 * i + 2) long_two ∙ M.third_is

-- a side whose place is listed
abbrev IsPlaced : List (ℕ × ℕ) → List ℕ → Side → Type 0
IsPlaced rows places x = get_or places (number (carry rows x)) free_entry ≡ number x

-- side y is placed, and each that was
side_placed : {faces : ℕ} {rows : List (ℕ × ℕ)} (places : List ℕ) → IsRenumbering faces rows → length places ≡ 3 * faces →
    (y x : Side) → y.face < faces → x.face < faces → (x ≢ y → IsPlaced rows places x) →
    IsPlaced rows (set places (number (carry rows y)) (number y)) x
side_placed {faces} {rows} places R l y x h k old = elim (cases_eq (number (carry rows x)) (number (carry rows y))) [
  | inl e ↦ (
      let q : x ≡ y = carry_injective R x y k h (number_injective (carry rows x) (carry rows y) e) in
      let n = number-lt (carry rows y) faces (carry-within R y h) in
      subst (λ (z : Side). IsPlaced rows (set places (number (carry rows y)) (number y)) z) (sym q)
      (get_or-set_same places (number (carry rows y)) (number y) free_entry (omega arith)))
  | inr m ↦
      get_or-set_other places (number (carry rows y)) (number (carry rows x)) (number y) free_entry m
      ∙ old (λ q. m (ap (λ (z : Side). number (carry rows z)) q))
]

-- the sides of face i are placed, and those of the faces below it are
pub face_placed : {faces : ℕ} {rows : List (ℕ × ℕ)} (places : List ℕ) (i : ℕ) →
    IsRenumbering faces rows → length places ≡ 3 * faces → i < faces → ((x : Side) → x.face < i → IsPlaced rows places x) →
    (x : Side) → x.face < i + 1 → IsPlaced rows (placed_face (get_or rows i (0, 0)).0 (get_or rows i (0, 0)).1 (3 * i) places) x
face_placed {faces} {rows} places i R l h old x k =
    side_placed two R (long_set one (side i second) ∙ long_one) (side i third) x h inside (λ third_not.
    side_placed one R long_one (side i second) x h inside (λ second_not.
    side_placed places R l (side i first) x h inside (λ first_not.
    old x (elim (cases_eq x.face i) [
      | inl e ↦ absurd (other x.place first_not second_not third_not (ap (λ (n : ℕ). side n x.place) e))
      | inr m ↦ omega arith
    ]))))
  where
    one : List ℕ
    one = set places (number (carry rows (side i first))) (number (side i first))

    two : List ℕ
    two = set one (number (carry rows (side i second))) (number (side i second))

    long_set : (items : List ℕ) (y : Side) → length (set items (number (carry rows y)) (number y)) ≡ length items
    long_set items y = length-set items (number (carry rows y)) (number y)

    long_one : length one ≡ 3 * faces
    long_one = long_set places (side i first) ∙ l

    inside : x.face < faces
    inside = omega arith

    other : (p : Place) → x ≢ side i first → x ≢ side i second → x ≢ side i third → x ≡ side i p → ⊥
    other first a b c = a
    other second a b c = b
    other third a b c = c
