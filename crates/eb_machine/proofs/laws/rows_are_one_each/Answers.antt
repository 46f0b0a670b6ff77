use Rattle.eb_machine.proofs.RowsOnce.{one_row_each, top_is_free}
use Rattle.eb_machine.proofs.laws.rows_are_one_each.Goals as goal

pub returns : goal.returns
returns c = record { rows = one_row_each; top = top_is_free }
