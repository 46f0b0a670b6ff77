use Rattle.std.proofs.Common.{◌≡◌, ◌+◌, length, map}
use Rattle.mesh_model.specs.declared.geometries.Geometry.{Geometry}
use Rattle.ply_text.specs.Tokens.{tokens_of}
use Rattle.ply_mesh.specs.Body.{ends}
use Rattle.ply_mesh.proofs.bodies.read_end.Given as goal

abbrev pub invariant-loop-line : goal.invariant-loop-line
invariant-loop-line l =
    ((g : Geometry) → ends g l.number (map tokens_of l.lines) ≡ ends g l.at (map tokens_of l.fn.lines))
    × (l.number + length l.lines ≡ l.at + length l.fn.lines)

abbrev pub decreases-loop-line : goal.decreases-loop-line
decreases-loop-line l = length l.lines
