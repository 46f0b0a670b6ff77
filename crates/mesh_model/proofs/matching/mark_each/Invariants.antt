use Rattle.std.proofs.Common.{length, take}
use Rattle.mesh_model.proofs.Names.{Marks}
use Rattle.mesh_model.proofs.matching.mark_each.Given as goal

-- the marks show what the rows so far have named
abbrev pub invariant-loop-row : goal.invariant-loop-row
invariant-loop-row l = Marks (length l.fn.seen) l.seen (take l.row-index l.rows)
