use Rattle.corner_table.proofs.FanLaws.{test_finds_fan, test_finds_no_other}
use Rattle.corner_table.proofs.laws.meeting_is_one_fan.Goals as goal

pub returns : goal.returns
returns c = record { found = test_finds_fan; only = test_finds_no_other }
