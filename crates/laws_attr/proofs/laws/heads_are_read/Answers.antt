use Rattle.laws_attr.proofs.Heads.{heads_read, ends_read}
use Rattle.laws_attr.proofs.laws.heads_are_read.Goals as goal

pub returns-clause-heads : goal.returns-clause-heads
returns-clause-heads c = heads_read

pub returns-clause-ends : goal.returns-clause-ends
returns-clause-ends c = ends_read
