use Rattle.predict.proofs.Rounds.{flags_are_few}
use Rattle.predict.proofs.laws.flags_are_few.Goals as goal

pub returns : goal.returns
returns c = flags_are_few
