use Rattle.seams.proofs.Chains.{list_cuts_alike}
use Rattle.seams.proofs.Values.{told_are_flags}
use Rattle.seams.proofs.Blocks.{bits_tell_flags, block_tells_flags}
use Rattle.seams.proofs.laws.bits_tell_seams.Goals as goal

pub returns-clause-flags : goal.returns-clause-flags
returns-clause-flags c = told_are_flags

pub returns-clause-bits : goal.returns-clause-bits
returns-clause-bits c = bits_tell_flags

pub returns-clause-block : goal.returns-clause-block
returns-clause-block c = block_tells_flags

pub returns-clause-list : goal.returns-clause-list
returns-clause-list c = list_cuts_alike
