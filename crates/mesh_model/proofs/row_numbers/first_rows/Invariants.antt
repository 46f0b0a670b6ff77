-- The rows are numbered by their integers so far.
use Rattle.std.proofs.Common.{◌≡◌, ◌≤◌, ◌+◌}
use Rattle.mesh_model.specs.RowNumbers.{AreFirstRows}
use Rattle.mesh_model.proofs.row_numbers.first_rows.Given as goal

abbrev pub invariant-loop-j : goal.invariant-loop-j
invariant-loop-j l = record {
  numbers : AreFirstRows l.fn.rows.table.rows l.j l.fn.rows.table.count l.numbers.items;
  same : l.rows.table ≡ l.fn.rows.table;
  pairs : l.rows.pairs ≡ l.fn.rows.pairs;
  passes : l.rows.passes ≤ l.fn.rows.passes + l.j;
}
