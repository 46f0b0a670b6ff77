-- A mesh that is seen through rows: what holds of it, and its corners.
use Rattle.std.proofs.Common.{◌≡◌, ℕ, ◌+◌, ◌%◌, ◌<◌, ℤ, List, [], length, get_or, refl, sym, ap, ◌∙◌, arith}
use Rattle.std.proofs.lemmas.List.{length-map}
use Rattle.mesh_model.specs.Parts.{MeshParts, corner, IsMesh}
use Rattle.mesh_model.specs.Same.{Rows}
use Rattle.mesh_model.specs.Renumbering.{turned_face, renumbered}
use Rattle.mesh_model.proofs.RenumberedMeshes.{renumbered-mesh, renumbered-same}
use Rattle.corner_table.specs.Sides.{Place, first, second, third, place_number, place_of}
use Rattle.corner_table.specs.Carried.{turned, IsRenumbering}
use Rattle.corner_table.proofs.CarriedLists.{turned_corner}
use Rattle.drc_container.proofs.lemmas.surface.Decoded.{names-apart}

place-numbered : (p : Place) → place_of (place_number p) ≡ p
place-numbered first = refl
place-numbered second = refl
place-numbered third = refl

-- the place of a corner that is turned
pub turned-place : (k t : ℕ) → k < 3 → t < 3 → place_of ((k + t) % 3) ≡ turned t (place_of k)
turned-place k t h l = ap place_of (turned_corner k t h l) ∙ place-numbered (turned t (place_of k))

-- it is a mesh
pub turned-sound : (m : MeshParts) (rows : Rows) → IsMesh m → IsRenumbering (length m.faces) rows → IsMesh (renumbered m rows)
turned-sound m rows is R = renumbered-mesh m rows is (names-apart (length m.faces) rows R)

-- it has as many faces
pub turned-faces : (m : MeshParts) (rows : Rows) → IsRenumbering (length m.faces) rows → length (renumbered m rows).faces ≡ length m.faces
turned-faces m rows R = length-map rows (λ (row : ℕ × ℕ). turned_face (get_or m.faces row.0 []) row.1) ∙ R.one_each

-- a corner of it is a corner of the mesh
pub turned-row : (m : MeshParts) (rows : Rows) (f k face low : ℕ) → IsMesh m → IsRenumbering (length m.faces) rows → f < length (renumbered m rows).faces → k < 3
    → face ≡ (get_or rows f (0, 0)).0 → low ≡ (k + (get_or rows f (0, 0)).1) % 3 → corner m face low ≡ corner (renumbered m rows) f k
turned-row m rows f k face low is R below small one two =
    let turn = (get_or rows f (0, 0)).1 in
    let at : ℕ → ℕ → List ℤ = λ (g l : ℕ). get_or m.points (get_or (get_or m.faces g []) l 0) [] in
    let same : low % 3 ≡ (k + turn) % 3 = omega arith in
    ap (λ (g : ℕ). at g (low % 3)) one
    ∙ ap (at (get_or rows f (0, 0)).0) same
    ∙ sym (((renumbered-same m rows is (names-apart (length m.faces) rows R)).faces f below).1 k small)
