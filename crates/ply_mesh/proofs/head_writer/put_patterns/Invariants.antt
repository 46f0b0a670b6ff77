use Rattle.std.proofs.Common.{◌≡◌, ◌++◌, map, drop}
use Rattle.ply_mesh.specs.Text.{spaced, pattern_text}
use Rattle.ply_mesh.proofs.head_writer.put_patterns.Given as goal

abbrev pub invariant-loop-i : goal.invariant-loop-i
invariant-loop-i l = l.out.items ++ spaced (map pattern_text (drop l.i l.min)) ≡ l.fn.out.items ++ spaced (map pattern_text l.min)
