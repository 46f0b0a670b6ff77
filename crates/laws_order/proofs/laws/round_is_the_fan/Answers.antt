use Rattle.laws_order.proofs.Fan.{round_is_fan, round_has_fuel}
use Rattle.laws_order.proofs.laws.round_is_the_fan.Goals as goal

pub returns-clause-fan : goal.returns-clause-fan
returns-clause-fan c = round_is_fan

pub returns-clause-fuel : goal.returns-clause-fuel
returns-clause-fuel c = round_has_fuel
