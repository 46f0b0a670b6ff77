use Rattle.std.proofs.Common.{sym, ap, ◌∙◌}
use Rattle.drc_bits.specs.Digits.{digits}
use Rattle.drc_bits.proofs.Digits.{digits-is, nothing}
use Rattle.kd_tree.proofs.writing.digits_of.Goals as goal

pub returns-then-v-eq0-clause-digits : goal.returns-then-v-eq0-clause-digits
returns-then-v-eq0-clause-digits c = sym (ap digits c.if-v-eq0.true ∙ nothing 32)

pub returns-clause-digits : goal.returns-clause-digits
returns-clause-digits c = sym (digits-is 32 c.ilog2.result c.args.v c.ilog2.ensures.bound c.ilog2.ensures.power_le c.ilog2.ensures.next_power_gt)
