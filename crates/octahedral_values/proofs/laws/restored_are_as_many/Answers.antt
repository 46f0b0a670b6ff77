use Rattle.octahedral_values.proofs.Lawful.{length-restored_integers}
use Rattle.octahedral_values.proofs.laws.restored_are_as_many.Goals as goal

pub returns : goal.returns
returns c = λ step centre flips corrections values even made. length-restored_integers step centre flips corrections values even made
