-- One row more.
use Rattle.std.proofs.Common.{◌∙◌}
use Rattle.mesh_model.proofs.RowNumbers.{column_more}
use Rattle.mesh_model.proofs.row_numbers.column_bits.Goals as goal

pub loop-i-preserved : goal.loop-i-preserved
loop-i-preserved c = record {
  column = rw c.push_reserved.ensures.items (column_more _ _ _ _ _ c.loop-i.invariant.column c.bits_at.ensures.bits c.bits_at.ensures.value);
  room = c.push_reserved.ensures.capacity ∙ c.loop-i.invariant.room;
}
