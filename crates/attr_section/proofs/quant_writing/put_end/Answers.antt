-- A head without a square gets its quantisation back, one with a square the bits of that.
use Rattle.std.proofs.Common.{ℕ, Option, subst}
use Rattle.attr_section.specs.Written.{HasEnd}
use Rattle.attr_section.proofs.SpelledValues.{unsquared_end, squared_end}
use Rattle.attr_section.proofs.quant_writing.put_end.Goals as goal

pub returns-in_ok-put_quant_of-in-None-clause-again : goal.returns-in_ok-put_quant_of-in-None-clause-again
returns-in_ok-put_quant_of-in-None-clause-again c =
    let h = c.args.head.now in
    unsquared_end h c.in-None.is (subst (λ (o : Option ℕ). HasEnd h o) c.in-None.is c.requires) c.in_ok-put_quant_of-in-None.ensures.fit

pub returns-in_ok-push-in-Some-clause-again : goal.returns-in_ok-push-in-Some-clause-again
returns-in_ok-push-in-Some-clause-again c =
    let h = c.args.head.now in
    let has = subst (λ (o : Option ℕ). HasEnd h o) c.in-Some.is c.requires in
    squared_end h c.in-Some.bits c.in-Some.is has.0 has.1
