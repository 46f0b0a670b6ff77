use Rattle.std.proofs.Common.{sym}
use Rattle.drc_bits.proofs.Digits.{digits-is}
use Rattle.attr_section.proofs.squared_reading.digits_of.Goals as goal

pub returns : goal.returns
returns c = sym (digits-is 32 c.ilog2.result c.args.v c.ilog2.ensures.bound c.ilog2.ensures.power_le c.ilog2.ensures.next_power_gt)
