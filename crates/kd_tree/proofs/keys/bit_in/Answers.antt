use Rattle.std.proofs.Common.{sym}
use Rattle.kd_tree.proofs.Bits.{get-high_bits}
use Rattle.kd_tree.proofs.keys.bit_in.Goals as goal

pub returns : goal.returns
returns c = sym (get-high_bits c.args.bits c.args.number c.args.place c.requires.place)
