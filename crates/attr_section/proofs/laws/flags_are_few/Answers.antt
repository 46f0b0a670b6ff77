use Rattle.predict.proofs.Rounds.{flags_are_few}
use Rattle.attr_section.proofs.SpelledFlags.{few_in}
use Rattle.attr_section.proofs.laws.flags_are_few.Goals as goal

pub returns : goal.returns
returns c = λ faces w gluing over apart. few_in faces w over (λ k. flags_are_few faces w gluing over apart k)
