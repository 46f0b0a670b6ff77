-- Positions by numbers, and those of corners.
use Rattle.std.proofs.Common.{◌≡◌, ℕ, ◌+◌, ◌*◌, ◌%◌, ◌<◌, ℤ, List, [], ◌∷◌, ◌++◌, length, get_or, take, inl, inr, sym, refl, ap, ◌∙◌, subst, arith, length-append}
use Rattle.std.proofs.lemmas.List.{get_or_read, get_or_append_left, get_or_push}
use Rattle.std.proofs.lemmas.Bool.{cases_eq}
use Rattle.mesh_model.specs.Parts.{MeshParts, IsMesh, IsFaceOf}
use Rattle.corner_table.specs.Sides.{Side, Place, first, second, third, side, number, place_number}
use Rattle.corner_table.proofs.Numbers.{number-lt}
use Rattle.pairing.specs.Pairing.{first_width, corner_position}
use Rattle.mesh_model.specs.RowNumbers.{AreFirstRows}
use Rattle.mesh_model.proofs.RowNumbers.{one_first_row}
use Rattle.pairing.specs.Positions.{ArePointNumbers, AreCornerNumbers, position_in}

-- points by the first ones like them
pub points_numbered : (points : List (List ℤ)) (width : ℕ) (numbers : List ℕ) → AreFirstRows points width (length points) numbers → ArePointNumbers points width numbers
points_numbered points width numbers F = record {
  each = F.each;
  below = λ p h. (let n = (F.first_is p h).no_later in omega arith);
  alike = λ p q h k e. one_first_row (F.first_is p h) (F.first_is q k) e;
  apart = λ p q h k e. sym (F.first_is p h).same ∙ ap (λ (v : ℕ). take width (get_or points v [])) e ∙ (F.first_is q k).same;
}

-- the number of a corner's point
abbrev pub point_number : List (List ℕ) → List ℕ → Side → ℕ
point_number faces of_point c = get_or of_point (get_or (get_or faces c.face []) (place_number c.place) 0) 0

-- three numbers more, of the corners of one face more
pub record IsFaceMore (value : Side → ℕ) (items : List ℕ) (i a b c : ℕ) : Type 0 where
  pub long : length items ≡ 3 * i
  pub was : (x : Side) → x.face < i → get_or items (number x) 0 ≡ value x
  pub first_is : a ≡ value (side i first)
  pub second_is : b ≡ value (side i second)
  pub third_is : c ≡ value (side i third)

pub face_more : (value : Side → ℕ) (items : List ℕ) (i a b c : ℕ) → IsFaceMore value items i a b c →
    (x : Side) → x.face < i + 1 → get_or (((items ++ a ∷ []) ++ b ∷ []) ++ c ∷ []) (number x) 0 ≡ value x
face_more value items i a b c M x k = elim (cases_eq x.face i) [
  | inl g ↦ (
      let s : side i x.place ≡ x = ap (λ (n : ℕ). side n x.place) (sym g) in
      subst (λ (w : Side). get_or (((items ++ a ∷ []) ++ b ∷ []) ++ c ∷ []) (number w) 0 ≡ value w) s (new x.place))
  | inr g ↦ (
      let less : x.face < i = omega arith in
      let m = number-lt x i less in
      let l = M.long in
      get_or_append_left ((items ++ a ∷ []) ++ b ∷ []) (c ∷ []) 0 (number x) (let l2 = long_two in omega arith)
      ∙ get_or_append_left (items ++ a ∷ []) (b ∷ []) 0 (number x) (let l1 = long_one in omega arith)
      ∙ get_or_append_left items (a ∷ []) 0 (number x) (omega arith)
      ∙ M.was x less)
]
  where
    long_one : length (items ++ a ∷ []) ≡ 3 * i + 1
    long_one = length-append items (a ∷ []) ∙ (let l = M.long in omega arith)

    long_two : length ((items ++ a ∷ []) ++ b ∷ []) ≡ 3 * i + 2
    long_two = length-append (items ++ a ∷ []) (b ∷ []) ∙ (let l1 = long_one in omega arith)

    new : (p : Place) → get_or (((items ++ a ∷ []) ++ b ∷ []) ++ c ∷ []) (number (side i p)) 0 ≡ value (side i p)
    new first =
        get_or_append_left ((items ++ a ∷ []) ++ b ∷ []) (c ∷ []) 0 (3 * i + 0) (let l2 = long_two in omega arith)
        ∙ get_or_append_left (items ++ a ∷ []) (b ∷ []) 0 (3 * i + 0) (let l1 = long_one in omega arith)
        ∙ get_or_push items a 0 (3 * i + 0) (let l = M.long in omega arith)
        ∙ M.first_is
    new second =
        get_or_append_left ((items ++ a ∷ []) ++ b ∷ []) (c ∷ []) 0 (3 * i + 1) (let l2 = long_two in omega arith)
        ∙ get_or_push (items ++ a ∷ []) b 0 (3 * i + 1) long_one
        ∙ M.second_is
    new third = get_or_push ((items ++ a ∷ []) ++ b ∷ []) c 0 (3 * i + 2) long_two ∙ M.third_is

-- the numbers of all corners
pub corner_numbers_are : (m : MeshParts) (of_point numbers : List ℕ) (n : ℕ) → n ≡ length m.faces → IsMesh m → ArePointNumbers m.points (first_width m.heads) of_point → length numbers ≡ 3 * n →
    ((x : Side) → x.face < n → position_in numbers x ≡ point_number m.faces of_point x) → AreCornerNumbers m numbers
corner_numbers_are m of_point numbers n e M P l h = record {
  each = omega arith;
  below = λ c k. (let b = P.below (point c) (inside c k) in let q = h c (omega arith) in omega arith);
  alike = λ c d k j s. h c (omega arith) ∙ P.alike (point c) (point d) (inside c k) (inside d j) (sym (row c k) ∙ s ∙ row d j) ∙ sym (h d (omega arith));
  apart = λ c d k j s. row c k ∙ P.apart (point c) (point d) (inside c k) (inside d j) (sym (h c (omega arith)) ∙ s ∙ h d (omega arith)) ∙ sym (row d j);
}
  where
    point : Side → ℕ
    point c = get_or (get_or m.faces c.face []) (place_number c.place) 0

    place-mod : (p : Place) → place_number p % 3 ≡ place_number p
    place-mod first = refl
    place-mod second = refl
    place-mod third = refl

    row : (c : Side) → c.face < length m.faces → corner_position m c ≡ take (first_width m.heads) (get_or m.points (get_or (get_or m.faces c.face []) (place_number c.place) 0) [])
    row c k = ap (λ (i : ℕ). take (first_width m.heads) (get_or m.points (get_or (get_or m.faces c.face []) i 0) [])) (place-mod c.place)

    inside : (c : Side) → c.face < length m.faces → get_or (get_or m.faces c.face []) (place_number c.place) 0 < length m.points
    inside c k = at c.place
      where
        face : IsFaceOf (length m.points) (get_or m.faces c.face [])
        face = M.faces c.face [] k

        at : (p : Place) → get_or (get_or m.faces c.face []) (place_number p) 0 < length m.points
        at first = (let l = face.0 in face.1 0 0 (omega arith))
        at second = (let l = face.0 in face.1 1 0 (omega arith))
        at third = (let l = face.0 in face.1 2 0 (omega arith))

-- the number that is read for a corner of a face
pub number_read : {points : ℕ} (row face of_point : List ℕ) (v : ℕ) → IsFaceOf points row → length of_point ≡ points → (k : ℕ) → k < 3 → face ≡ row → v ≡ get_or of_point (get_or face k 0) v → v ≡ get_or of_point (get_or row k 0) 0
number_read {points} row face of_point v F l k h e r =
    let n = F.0 in
    let b = F.1 k 0 (omega arith) in
    let q : v ≡ get_or of_point (get_or row k 0) v = r ∙ ap (λ (f : List ℕ). get_or of_point (get_or f k 0) v) e in
    let inside : get_or row k 0 < length of_point = omega arith in
    get_or_read of_point (get_or row k 0) v inside q 0
