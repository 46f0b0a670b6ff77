-- The pairs of a mesh without degenerate faces make a proper surface.
use Rattle.std.proofs.Common.{◌≡◌, ℕ, ◌<◌, ◌≤◌, Bool, true, List, [], map, length, take, get_or, None, inl, inr, refl, sym, ap, ◌∙◌, subst, arith}
use Rattle.std.specs.Prelude.{ℤ}
use Rattle.std.specs.List.{position_or_len}
use Rattle.std.proofs.lemmas.Bool.{cases_lt, false≢true}
use Rattle.std.proofs.lemmas.List.{get_or-map, length-map}
use Rattle.std.proofs.lemmas.List.Sums.{fails_before_first, passes_at_first}
use Rattle.mesh_model.specs.Assembled.{same_row}
use Rattle.mesh_model.specs.Parts.{MeshParts, IsMesh}
use Rattle.mesh_model.proofs.DistinctRows.{same_row-refl, same_row-decides}
use Rattle.corner_table.specs.Sides.{Side, number}
use Rattle.corner_table.specs.Fans.{corners_of, IsProper}
use Rattle.corner_table.proofs.Numbers.{number-lt}
use Rattle.pairing.specs.Pairing.{first_width, pairing}
use Rattle.pairing.specs.Degenerate.{degenerate_fault}
use Rattle.pairing.specs.Positions.{ArePointNumbers, AreCornerNumbers}
use Rattle.pairing.proofs.PositionLists.{point_number, corner_numbers_are}
use Rattle.pairing.proofs.Starts.{triangles_are, pairing_is, surface_proper}
use Rattle.seams.proofs.Listing.{length-corners, corner_is}

-- a test that passes at a place passes first no later
pub first_no_later : {X : Type 0} (p : X → Bool) (xs : List X) (i : ℕ) (d : X) → p (get_or xs i d) ≡ true → position_or_len p xs ≤ i
first_no_later p xs i d passes = elim (cases_lt i (position_or_len p xs)) [
  | inl before ↦ absurd (false≢true (sym (fails_before_first p xs i d before) ∙ passes))
  | inr after ↦ after
]

-- the number of a position: that of the first point that has it
abbrev position_number : List (List ℤ) → ℕ → List ℤ → ℕ
position_number points width row = position_or_len (λ (other : List ℤ). same_row (take width other) (take width row)) points

abbrev point_numbers : List (List ℤ) → ℕ → List ℕ
point_numbers points width = map (position_number points width) points

module _ (points : List (List ℤ)) (width : ℕ) where
  at : (p : ℕ) → p < length points → get_or (point_numbers points width) p 0 ≡ position_number points width (get_or points p [])
  at p below = get_or-map (position_number points width) points p [] 0 below

  itself : (p : ℕ) → position_number points width (get_or points p []) ≤ p
  itself p =
      first_no_later (λ (other : List ℤ). same_row (take width other) (take width (get_or points p []))) points p []
      (same_row-refl (take width (get_or points p [])) (take width (get_or points p [])) refl)

  -- the point of a number has the position
  has : (p : ℕ) → p < length points → take width (get_or points (position_number points width (get_or points p [])) []) ≡ take width (get_or points p [])
  has p below =
      let test : List ℤ → Bool = λ (other : List ℤ). same_row (take width other) (take width (get_or points p [])) in
      let before = itself p in
      (same_row-decides (take width (get_or points (position_or_len test points) [])) (take width (get_or points p []))).0
      (passes_at_first test points [] (omega arith))

  numbers_are : ArePointNumbers points width (point_numbers points width)
  numbers_are = record {
    each = length-map points (position_number points width);
    below = λ p h. (let e = at p h in let l = itself p in omega arith);
    alike = λ p q h k e. at p h ∙ ap (λ (row : List ℤ). position_or_len (λ (other : List ℤ). same_row (take width other) row) points) e ∙ sym (at q k);
    apart = λ p q h k e. sym (has p h) ∙ ap (λ (n : ℕ). take width (get_or points n [])) (sym (at p h) ∙ e ∙ at q k) ∙ has q k;
  }

-- the numbers of all corners' positions
abbrev corner_numbers : MeshParts → List ℕ
corner_numbers m = map (point_number m.faces (point_numbers m.points (first_width m.heads))) (corners_of (length m.faces))

corners_numbered : (m : MeshParts) → IsMesh m → AreCornerNumbers m (corner_numbers m)
corners_numbered m is =
    let value : Side → ℕ = point_number m.faces (point_numbers m.points (first_width m.heads)) in
    corner_numbers_are m (point_numbers m.points (first_width m.heads)) (corner_numbers m) (length m.faces) refl is (numbers_are m.points (first_width m.heads))
    (length-map (corners_of (length m.faces)) value ∙ length-corners (length m.faces))
    (λ x below.
    let long = length-corners (length m.faces) in
    let inside : number x < length (corners_of (length m.faces)) = (let n = number-lt x (length m.faces) below in omega arith) in
    get_or-map value (corners_of (length m.faces)) (number x) x 0 inside ∙ ap value (corner_is (length m.faces) x x below))

-- without degenerate faces the pairs make a proper surface
pub pairing-proper : (m : MeshParts) → IsMesh m → degenerate_fault m ≡ None → IsProper (length m.faces) (pairing m)
pairing-proper m is none =
    let numbers = corners_numbered m is in
    subst (IsProper (length m.faces)) (pairing_is m (corner_numbers m) numbers)
    (surface_proper (length m.faces) (corner_numbers m) (triangles_are m (corner_numbers m) none numbers))
