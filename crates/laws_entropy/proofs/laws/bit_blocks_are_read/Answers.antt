use Rattle.laws_entropy.proofs.Again.{bits-again}
use Rattle.laws_entropy.proofs.laws.bit_blocks_are_read.Goals as goal

pub returns : goal.returns
returns c = bits-again
