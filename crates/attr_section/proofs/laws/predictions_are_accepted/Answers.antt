use Rattle.attr_section.proofs.Accepted.{accepted}
use Rattle.attr_section.proofs.laws.predictions_are_accepted.Goals as goal

pub returns : goal.returns
returns c = accepted
