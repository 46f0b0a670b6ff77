-- The trace of a mesh without degenerate faces, and the mesh in the order of decoding.
use Rattle.std.proofs.Common.{◌≡◌, ℕ, List, [], length, None, refl, ◌∙◌}
use Rattle.std.proofs.lemmas.List.{length-map}
use Rattle.std.specs.Prelude.{slice_index_or}
use Rattle.mesh_model.specs.Parts.{MeshParts, IsMesh}
use Rattle.mesh_model.specs.Renumbering.{turned_face}
use Rattle.corner_table.specs.Fans.{IsProper}
use Rattle.corner_table.specs.Carried.{IsRenumbering, IsCarried}
use Rattle.pairing.specs.Pairing.{pairing}
use Rattle.pairing.specs.Degenerate.{degenerate_fault}
use Rattle.pairing.proofs.CarriedPairs.{carried_is_the_one, carried_is_proper}
use Rattle.eb_trace.specs.FromTrace.{IsRebuiltFrom}
use Rattle.eb_trace.proofs.StartBits.{walk_orders}
use Rattle.eb_trace.proofs.Given.{walk_is_kept}
use Rattle.drc_container.specs.writing.WrittenOnSurface.{traced, decoded}
use Rattle.drc_container.proofs.lemmas.surface.Proper.{pairing-proper}

-- the order of decoding lists each face once
pub traced-orders : (m : MeshParts) → IsMesh m → degenerate_fault m ≡ None → IsRenumbering (length m.faces) (traced m).order
unfolding traced
traced-orders m is none = let proper = pairing-proper m is none in walk_orders (length m.faces) (pairing m) proper.gluing proper.three_fans

-- reverse decoding of the trace builds the surface in that order
pub traced-rebuilds : (m : MeshParts) → IsMesh m → degenerate_fault m ≡ None
    → IsRebuiltFrom (length m.faces) (pairing m) (traced m).symbols (traced m).events (traced m).starts (traced m).order (traced m).vertices
unfolding traced
traced-rebuilds m is none = let proper = pairing-proper m is none in walk_is_kept (length m.faces) (pairing m) proper.gluing proper.three_fans

-- the pairs in that order are those of the mesh under the new numbers
pub decoded-carried : (m : MeshParts) → IsMesh m → degenerate_fault m ≡ None → IsCarried (length m.faces) (pairing m) (traced m).order (decoded m).pairs
unfolding decoded
decoded-carried m is none = (carried_is_the_one (length m.faces) (pairing m) (traced m).order (pairing-proper m is none).gluing (traced-orders m is none)).0

-- they make a proper surface
pub decoded-proper : (m : MeshParts) → IsMesh m → degenerate_fault m ≡ None → IsProper (length m.faces) (decoded m).pairs
unfolding decoded
decoded-proper m is none = carried_is_proper (length m.faces) (pairing m) (traced m).order (pairing-proper m is none) (traced-orders m is none)

-- there are as many faces as before
pub decoded-faces : (m : MeshParts) → IsMesh m → degenerate_fault m ≡ None → length (decoded m).mesh.faces ≡ length m.faces
unfolding decoded
decoded-faces m is none =
    let turn : ℕ × ℕ → List ℕ = λ row. turned_face (slice_index_or m.faces row.0 []) row.1 in
    length-map (traced m).order turn ∙ (traced-orders m is none).one_each

-- and the same heads
pub decoded-heads : (m : MeshParts) → (decoded m).mesh.heads ≡ m.heads
unfolding decoded
decoded-heads m = refl
