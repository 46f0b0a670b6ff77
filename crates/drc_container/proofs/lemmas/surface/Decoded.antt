-- A mesh as it is decoded: its pairs are a proper surface that fits it, its faces are in another order and turned, and it is the same mesh.
use Rattle.std.proofs.Common.{◌≡◌, ℕ, ◌%◌, ◌<◌, Bool, ℤ, List, [], length, map, take, get_or, None, inl, inr, refl, sym, ap, ◌∙◌, subst, arith}
use Rattle.std.specs.List.{position_or_len}
use Rattle.std.proofs.lemmas.Bool.{cases_lt, false≢true}
use Rattle.std.proofs.lemmas.List.{length-map, get_or-map}
use Rattle.std.proofs.lemmas.List.Sums.{fails_before_first, passes_at_first}
use Rattle.mesh_model.specs.Parts.{MeshParts, corner, IsMesh}
use Rattle.mesh_model.specs.Assembled.{same_row}
use Rattle.mesh_model.specs.Renumbering.{NamesApart, renumbered, turned_face}
use Rattle.mesh_model.specs.Same.{Rows, SameMesh}
use Rattle.mesh_model.proofs.DistinctRows.{same_row-decides, same_row-refl}
use Rattle.mesh_model.proofs.RenumberedMeshes.{renumbered-mesh, renumbered-same}
use Rattle.corner_table.specs.Sides.{Side, Place, first, second, third, place_number, number, IsGluing}
use Rattle.corner_table.specs.Fans.{corners_of, IsProper}
use Rattle.corner_table.specs.Carried.{IsRenumbering, IsCarried}
use Rattle.corner_table.proofs.Numbers.{side_at-number, number-lt}
use Rattle.corner_table.proofs.PairLaws.{length-corners_of, corner_at}
use Rattle.pairing.specs.Pairing.{first_width, corner_position, same_position, pairing, PairsFit}
use Rattle.pairing.specs.Positions.{position_in, AreCornerNumbers}
use Rattle.pairing.specs.Degenerate.{degenerate_fault}
use Rattle.pairing.specs.CarriedPairs.{carried}
use Rattle.pairing.proofs.Starts.{triangles_are, pairing_is, pairs_fit, surface_proper}
use Rattle.pairing.proofs.CarriedPairs.{carried_is_the_one, carried_is_proper, mesh_fit_is_carried}
use Rattle.eb_trace.specs.Trace.{trace, order_of}
use Rattle.eb_trace.proofs.StartBits.{walk_orders}
use Rattle.drc_container.specs.writing.WrittenOnSurface.{traced, GluedMesh, decoded}

-- ---- corners

place-lt : (p : Place) → place_number p < 3
place-lt first = omega arith
place-lt second = omega arith
place-lt third = omega arith

-- the point of a corner
abbrev pub point_of : MeshParts → Side → ℕ
point_of m c = get_or (get_or m.faces c.face []) (place_number c.place % 3) 0

-- the row of a corner
abbrev pub row_of : MeshParts → Side → List ℤ
row_of m c = corner m c.face (place_number c.place)

-- the point of a corner is one of the mesh's
pub point-within : (m : MeshParts) → IsMesh m → (c : Side) → c.face < length m.faces → point_of m c < length m.points
point-within m is c within =
    let face = is.faces c.face [] within in
    let low = place-lt c.place in
    face.1 (place_number c.place % 3) 0 (omega (arith, face.0))

-- ---- the pairs

-- the first point with the position of a corner
abbrev position_number : MeshParts → Side → ℕ
position_number m c = position_or_len (λ (row : List ℤ). same_row (corner_position m c) (take (first_width m.heads) row)) m.points

abbrev position_numbers : MeshParts → List ℕ
position_numbers m = map (position_number m) (corners_of (length m.faces))

number-is : (m : MeshParts) (c : Side) → c.face < length m.faces → position_in (position_numbers m) c ≡ position_number m c
number-is m c within =
    let small = number-lt c (length m.faces) within in
    let inside : number c < length (corners_of (length m.faces)) = omega (arith, small, length-corners_of (length m.faces)) in
    get_or-map (position_number m) (corners_of (length m.faces)) (number c) c 0 inside
    ∙ ap (position_number m) (corner_at (length m.faces) (number c) c small ∙ side_at-number c)

number-below : (m : MeshParts) → IsMesh m → (c : Side) → c.face < length m.faces → position_number m c < length m.points
number-below m is c within =
    let test : List ℤ → Bool = λ (row : List ℤ). same_row (corner_position m c) (take (first_width m.heads) row) in
    let p = point_of m c in
    let has = point-within m is c within in
    elim (cases_lt (position_number m c) (length m.points)) [
      | inl l ↦ l
      | inr l ↦ (
          let before : p < position_number m c = omega (arith, has) in
          absurd (false≢true (sym (fails_before_first test m.points p [] before) ∙ same_row-refl (corner_position m c) (corner_position m c) refl)))
    ]

-- that point has it
number-tells : (m : MeshParts) → IsMesh m → (c : Side) → c.face < length m.faces → corner_position m c ≡ take (first_width m.heads) (get_or m.points (position_number m c) [])
number-tells m is c within =
    (same_row-decides (corner_position m c) (take (first_width m.heads) (get_or m.points (position_number m c) []))).0
    (passes_at_first (λ (row : List ℤ). same_row (corner_position m c) (take (first_width m.heads) row)) m.points [] (number-below m is c within))

numbers-are : (m : MeshParts) → IsMesh m → AreCornerNumbers m (position_numbers m)
numbers-are m is = record {
  each = length-map (corners_of (length m.faces)) (position_number m) ∙ length-corners_of (length m.faces);
  below = λ c h. subst (λ (n : ℕ). n < length m.points) (sym (number-is m c h)) (number-below m is c h);
  alike = λ c d h k e. number-is m c h ∙ ap (λ (p : List ℤ). position_or_len (λ (row : List ℤ). same_row p (take (first_width m.heads) row)) m.points) e ∙ sym (number-is m d k);
  apart = λ c d h k e.
      let same : position_number m c ≡ position_number m d = sym (number-is m c h) ∙ e ∙ number-is m d k in
      number-tells m is c h ∙ ap (λ (n : ℕ). take (first_width m.heads) (get_or m.points n [])) same ∙ sym (number-tells m is d k);
}

-- where no face is degenerate, the pairs of a mesh are a proper surface
pub pairing-proper : (m : MeshParts) → IsMesh m → degenerate_fault m ≡ None → IsProper (length m.faces) (pairing m)
pairing-proper m is none =
    let N = numbers-are m is in
    subst (IsProper (length m.faces)) (pairing_is m (position_numbers m) N)
    (surface_proper (length m.faces) (position_numbers m) (triangles_are m (position_numbers m) none N))

-- and each of them fits
pub pairing-fits : (m : MeshParts) → IsMesh m → degenerate_fault m ≡ None → PairsFit (same_position m) (pairing m)
pairing-fits m is none =
    let N = numbers-are m is in
    pairs_fit m (position_numbers m) (length m.faces) (pairing m) (triangles_are m (position_numbers m) none N) N refl (sym (pairing_is m (position_numbers m) N))

-- ---- the order of decoding

pub traced-order : (m : MeshParts) → (traced m).order ≡ order_of (trace (length m.faces) (pairing m))
unfolding traced
traced-order m = refl

-- the order of decoding lists each face once
pub traced-renumbers : (m : MeshParts) → IsMesh m → degenerate_fault m ≡ None → IsRenumbering (length m.faces) (traced m).order
traced-renumbers m is none =
    let P = pairing-proper m is none in
    subst (IsRenumbering (length m.faces)) (sym (traced-order m)) (walk_orders (length m.faces) (pairing m) P.gluing P.three_fans)

-- the rows of a renumbering name the faces apart
pub names-apart : (faces : ℕ) (rows : Rows) → IsRenumbering faces rows → NamesApart faces rows
names-apart faces rows R = record { one_each = R.one_each; within = R.within; turns = R.turns; apart = R.apart }

-- ---- the mesh as it is decoded

-- a surface is that of a mesh with its faces in this order
pub record KeepsMesh (m : MeshParts) (d : GluedMesh) (rows : Rows) : Type 0 where
  pub heads : d.mesh.heads ≡ m.heads
  pub points : d.mesh.points ≡ m.points
  pub faces : length d.mesh.faces ≡ length m.faces
  pub mesh : IsMesh d.mesh
  pub same : SameMesh m d.mesh rows
  pub gluing : IsGluing (length d.mesh.faces) d.pairs
  pub fits : PairsFit (same_position d.mesh) d.pairs

glued-keeps : (m : MeshParts) (rows : Rows) → IsMesh m → IsRenumbering (length m.faces) rows → IsProper (length m.faces) (pairing m) → PairsFit (same_position m) (pairing m)
    → KeepsMesh m (record { mesh = renumbered m rows; pairs = carried (pairing m) rows }) rows
glued-keeps m rows is R P fits =
    let apart = names-apart (length m.faces) rows R in
    let same = renumbered-same m rows is apart in
    let face_of : ℕ × ℕ → List ℕ = λ (row : ℕ × ℕ). turned_face (get_or m.faces row.0 []) row.1 in
    let many : length (renumbered m rows).faces ≡ length m.faces = length-map rows face_of ∙ R.one_each in
    let C = (carried_is_the_one (length m.faces) (pairing m) rows P.gluing R).0 in
    record {
      heads = refl;
      points = refl;
      faces = many;
      mesh = renumbered-mesh m rows is apart;
      same = same;
      gluing = subst (λ (n : ℕ). IsGluing n (carried (pairing m) rows)) (sym many) (carried_is_proper (length m.faces) (pairing m) rows P R).gluing;
      fits = mesh_fit_is_carried m (renumbered m rows) (pairing m) (carried (pairing m) rows) rows same
          (subst (λ (n : ℕ). IsCarried n (pairing m) rows (carried (pairing m) rows)) (sym many) C) fits;
    }

pub decoded-keeps : (m : MeshParts) → IsMesh m → degenerate_fault m ≡ None → KeepsMesh m (decoded m) (traced m).order
unfolding decoded
decoded-keeps m is none =
    glued-keeps m (traced m).order is (traced-renumbers m is none) (pairing-proper m is none) (pairing-fits m is none)
