use Rattle.std.proofs.Common.{rules, ◌++◌, ◌∷◌, [], ◌∙◌, ap}
use Rattle.attr_section.proofs.FlagBits.{taken-more}
use Rattle.attr_section.proofs.flag_lists.bits_of.Goals as goal

pub loop-number-preserved : goal.loop-number-preserved
loop-number-preserved c = record {
  bits = taken-more c.args.count c.loop-number._number c.args.block c.loop-number.block c.next.new.self c.loop-number.bits.items c.push_reserved.new.self.items
      (search rules) c.loop-number.invariant.bits c.next.ensures.after (c.push_reserved.ensures.items ∙ ap (λ b. c.loop-number.bits.items ++ b ∷ []) c.next.ensures.bit);
  len = search rules;
  room = search rules;
}
