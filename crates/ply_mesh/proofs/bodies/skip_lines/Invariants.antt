use Rattle.std.proofs.Common.{◌≡◌, drop}
use Rattle.ply_mesh.proofs.bodies.skip_lines.Given as goal

abbrev pub invariant-loop : goal.invariant-loop
invariant-loop l = l.lines ≡ drop l.counter l.fn.lines
