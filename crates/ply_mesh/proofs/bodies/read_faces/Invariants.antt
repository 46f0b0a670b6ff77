use Rattle.std.proofs.Common.{◌≡◌, ◌+◌, ◌-◌, ◌≤◌, length, map}
use Rattle.ply_text.specs.Tokens.{tokens_of}
use Rattle.ply_mesh.specs.Body.{face_of, items_from}
use Rattle.ply_mesh.proofs.ItemSteps.{with_front}
use Rattle.ply_mesh.proofs.bodies.read_faces.Given as goal

abbrev pub invariant-loop-i : goal.invariant-loop-i
invariant-loop-i l =
    (with_front l.faces.items (items_from (face_of l.list l.points) (l.count - l.i) (l.at + l.i) (map tokens_of l.lines))
    ≡ items_from (face_of l.list l.points) l.count l.at (map tokens_of l.fn.lines))
    × (length l.lines ≤ length l.fn.lines)
