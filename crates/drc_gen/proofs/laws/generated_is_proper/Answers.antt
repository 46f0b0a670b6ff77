use Rattle.drc_gen.proofs.Proper.{some-faces, proper-faces, small-values}
use Rattle.drc_gen.proofs.laws.generated_is_proper.Goals as goal

pub returns : goal.returns
returns c = record { some = some-faces; proper = proper-faces; small = small-values }
