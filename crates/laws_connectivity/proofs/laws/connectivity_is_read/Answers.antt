use Rattle.laws_connectivity.proofs.Again.{connectivity-again}
use Rattle.laws_connectivity.proofs.laws.connectivity_is_read.Goals as goal

pub returns : goal.returns
returns c = connectivity-again
