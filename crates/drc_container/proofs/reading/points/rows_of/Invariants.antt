use Rattle.std.proofs.Common.{◌≡◌}
use Rattle.std.specs.List.{flat_map, range_with_len}
use Rattle.drc_container.specs.Columns.{column_row}
use Rattle.drc_container.proofs.lemmas.reading.Rows.{columns}
use Rattle.drc_container.proofs.reading.points.rows_of.Given as goal

abbrev pub invariant-loop-i : goal.invariant-loop-i
invariant-loop-i l = l.cells.items ≡ flat_map (column_row l.heads (columns l.values)) (range_with_len 0 l.i)
