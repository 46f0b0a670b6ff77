use Rattle.corner_table.proofs.FanLaws.{fans_are_classes, fan_is_one_walk, walks_end}
use Rattle.corner_table.proofs.laws.a_fan_is_one_walk.Goals as goal

pub returns : goal.returns
returns c = record { classes = fans_are_classes; walk = fan_is_one_walk; ends = walks_end }
