use Rattle.corner_table.proofs.PairLaws.{one_bit_each, bit_sides_are_listed, bit_sides_rise, pairs_have_two_sides}
use Rattle.corner_table.proofs.laws.pairs_have_one_bit_each.Goals as goal

pub returns : goal.returns
returns c = record { one = one_bit_each; listed = bit_sides_are_listed; rise = bit_sides_rise; counted = pairs_have_two_sides }
