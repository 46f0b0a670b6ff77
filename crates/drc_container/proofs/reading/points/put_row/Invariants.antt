use Rattle.std.proofs.Common.{◌≡◌, ◌++◌, drop}
use Rattle.drc_container.specs.Columns.{column_row}
use Rattle.drc_container.proofs.lemmas.reading.Rows.{ColumnsFrom, columns}
use Rattle.drc_container.proofs.reading.points.put_row.Given as goal

abbrev pub invariant-loop-k : goal.invariant-loop-k
invariant-loop-k l =
    ColumnsFrom l.points l.heads l.values l.k
    × (l.cells.items ++ column_row (drop l.k l.heads) (columns (drop l.k l.values)) l.i ≡ l.fn.cells.items ++ column_row l.heads (columns l.values) l.i)
