use Rattle.laws_connectivity.proofs.Again.{indices-again}
use Rattle.laws_connectivity.proofs.laws.indices_are_read.Goals as goal

pub returns : goal.returns
returns c = indices-again
