use Rattle.corner_table.proofs.Ends.{fan_is_closed_or_open, starts_are_once, ends_are_once}
use Rattle.corner_table.proofs.laws.fans_end_once.Goals as goal

pub returns : goal.returns
returns c = record { closed_or_open = fan_is_closed_or_open; one_first = starts_are_once; one_last = ends_are_once }
