use Rattle.std.proofs.Common.{◌≡◌, ◌++◌, ◌<◌, ℕ, drop, get_or}
use Rattle.attr_heads.specs.declared.heads.Head.{Head}
use Rattle.ply_mesh.specs.Fields.{HasFields}
use Rattle.ply_mesh.specs.Text.{text_of, head_lines}
use Rattle.ply_mesh.proofs.head_writer.put_heads.Given as goal

abbrev pub invariant-loop-k : goal.invariant-loop-k
invariant-loop-k l = (l.out.items ++ text_of (head_lines l.k (drop l.k l.heads)) ≡ l.fn.out.items ++ text_of (head_lines 0 l.heads)) × ((j : ℕ) (d : Head) → j < l.k → HasFields (get_or l.heads j d))
