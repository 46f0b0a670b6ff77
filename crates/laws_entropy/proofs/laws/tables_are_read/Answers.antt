use Rattle.laws_entropy.proofs.Again.{table-again}
use Rattle.laws_entropy.proofs.laws.tables_are_read.Goals as goal

pub returns : goal.returns
returns c = table-again
