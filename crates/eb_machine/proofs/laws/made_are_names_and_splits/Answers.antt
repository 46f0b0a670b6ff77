use Rattle.eb_machine.proofs.NamesMade.{made_are}
use Rattle.eb_machine.proofs.laws.made_are_names_and_splits.Goals as goal

pub returns : goal.returns
returns c = made_are
