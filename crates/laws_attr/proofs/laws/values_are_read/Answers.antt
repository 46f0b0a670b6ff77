use Rattle.laws_attr.proofs.Values.{values_read}
use Rattle.laws_attr.proofs.laws.values_are_read.Goals as goal

pub returns : goal.returns
returns c = values_read
