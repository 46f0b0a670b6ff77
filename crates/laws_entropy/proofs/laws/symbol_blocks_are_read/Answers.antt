use Rattle.laws_entropy.proofs.Again.{symbols-again}
use Rattle.laws_entropy.proofs.laws.symbol_blocks_are_read.Goals as goal

pub returns : goal.returns
returns c = λ values comps some divides few all. symbols-again values comps divides few all
