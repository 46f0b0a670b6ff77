use Rattle.ply_mesh.proofs.RowColumns.{AreColumns}
use Rattle.ply_mesh.proofs.columns.row_bounds.Given as goal

abbrev pub invariant-loop-i : goal.invariant-loop-i
invariant-loop-i l = AreColumns l.heads l.columns.items l.i
