use Rattle.std.proofs.Common.{◌≡◌, ℕ, [], map, take, get_or}
use Rattle.mesh_model.specs.Renumbering.{turned_face}
use Rattle.drc_container.proofs.surface.turned_meshes.turned_faces.Given as goal

abbrev pub invariant-loop-face : goal.invariant-loop-face
invariant-loop-face l = l.faces.items ≡ map (λ (row : ℕ × ℕ). turned_face (get_or l.mesh.faces row.0 []) row.1) (take l.face-index l.rows)
