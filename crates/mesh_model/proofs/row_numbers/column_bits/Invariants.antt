-- The rows so far.
use Rattle.std.proofs.Common.{◌≡◌, vec_capacity}
use Rattle.mesh_model.specs.Parts.{rows_of}
use Rattle.mesh_model.specs.RowNumbers.{IsColumn}
use Rattle.mesh_model.proofs.row_numbers.column_bits.Given as goal

abbrev pub invariant-loop-i : goal.invariant-loop-i
invariant-loop-i l = record {
  column : IsColumn (rows_of l.width l.cells) l.j l.bits.items l.i;
  room : vec_capacity l.bits ≡ l.count;
}
