use Rattle.std.proofs.Common.{◌≡◌, ◌++◌, drop}
use Rattle.ply_mesh.specs.Text.{text_of, property_lines}
use Rattle.ply_mesh.proofs.property_writer.put_properties.Given as goal

abbrev pub invariant-loop-k : goal.invariant-loop-k
invariant-loop-k l = l.out.items ++ text_of (property_lines l.heads l.k (drop l.k l.heads)) ≡ l.fn.out.items ++ text_of (property_lines l.heads 0 l.heads)
