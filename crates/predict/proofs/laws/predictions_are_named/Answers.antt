use Rattle.predict.proofs.Named.{named}
use Rattle.predict.proofs.laws.predictions_are_named.Goals as goal

pub returns : goal.returns
returns c = named
