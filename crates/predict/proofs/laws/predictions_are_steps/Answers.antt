use Rattle.predict.proofs.Stepped.{stepped}
use Rattle.predict.proofs.laws.predictions_are_steps.Goals as goal

pub returns : goal.returns
returns c = stepped
