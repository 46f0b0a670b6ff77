use Rattle.std.proofs.Common.{◌≡◌, ◌+◌, ◌++◌, take, vec_len, vec_capacity}
use Rattle.drc_container.proofs.writing.coded_values.put_piece.Given as goal

abbrev pub invariant-loop-x : goal.invariant-loop-x
invariant-loop-x l = record {
  items : l.column.items ≡ l.fn.column.items ++ take l.x-index l.piece;
  len : vec_len l.column ≡ vec_len l.fn.column + l.x-index;
  capacity : vec_capacity l.column ≡ vec_capacity l.fn.column;
}
