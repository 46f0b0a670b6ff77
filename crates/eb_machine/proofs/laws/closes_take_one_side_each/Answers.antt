use Rattle.eb_machine.proofs.Closes.{symbols_close_none, close_takes_one, all_are_closed, finish_keeps_state, run_closes_all}
use Rattle.eb_machine.proofs.laws.closes_take_one_side_each.Goals as goal

pub returns : goal.returns
returns c = record { symbols = symbols_close_none; close = close_takes_one; all = all_are_closed; finish = finish_keeps_state; run = run_closes_all }
