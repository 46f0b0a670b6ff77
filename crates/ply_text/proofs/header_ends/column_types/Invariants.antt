use Rattle.ply_text.proofs.Columns.{AreColumns}
use Rattle.ply_text.proofs.header_ends.column_types.Given as goal

abbrev pub invariant-loop-i : goal.invariant-loop-i
invariant-loop-i l = AreColumns l.heads l.types.items l.i
