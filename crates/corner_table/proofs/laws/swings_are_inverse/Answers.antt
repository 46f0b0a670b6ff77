use Rattle.corner_table.proofs.FanLaws.{swings_inverse}
use Rattle.corner_table.proofs.laws.swings_are_inverse.Goals as goal

pub returns : goal.returns
returns c = swings_inverse
