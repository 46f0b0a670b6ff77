use Rattle.corner_table.proofs.FanLaws.{gluing_stays, fans_stay, ends_meet}
use Rattle.corner_table.proofs.Joining.{fans_join, no_others_join}
use Rattle.corner_table.proofs.laws.gluing_joins_fans.Goals as goal

pub returns : goal.returns
returns c = record { gluing = gluing_stays; stay = fans_stay; meet = ends_meet; join = fans_join; only = no_others_join }
