use Rattle.std.proofs.Common.{arith}
use Rattle.mesh_model.proofs.BitSets.{HasBit-put, HasBit-other}
use Rattle.mesh_model.proofs.bit_sets.put_bit.Goals as goal

pub returns-clause-there : goal.returns-clause-there
returns-clause-there c = HasBit-put c.args.words.now c.args.number (omega arith)

pub returns-clause-others : goal.returns-clause-others
returns-clause-others c = λ n there. HasBit-other c.args.words.now c.args.number n (omega arith) there
