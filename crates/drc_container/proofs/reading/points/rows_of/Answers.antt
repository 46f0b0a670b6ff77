use Rattle.std.proofs.Common.{sym}
use Rattle.drc_container.specs.Columns.{column_row}
use Rattle.drc_container.proofs.lemmas.reading.Rows.{columns, rows_more}
use Rattle.drc_container.proofs.reading.points.rows_of.Goals as goal

pub loop-i-preserved : goal.loop-i-preserved
loop-i-preserved c = rw (c.in_ok-put_row.ensures, c.loop-i.invariant) (sym (rows_more (column_row c.args.heads.now (columns c.args.values.now)) c.loop-i.i))
