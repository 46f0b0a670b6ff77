use Rattle.std.proofs.Common.{◌+◌, ◌/◌, ap}
use Rattle.drc_bits.specs.Bits.{bytes_for}
use Rattle.drc_bits.proofs.PackedBits.{Takes-bits}
use Rattle.drc_bits.proofs.cursors.Cursor.bits.Goals as goal

pub returns-clause-bits : goal.returns-clause-bits
returns-clause-bits c =
    Takes-bits c.args.n ((c.from.result + 7) / 8) c.args.self.now c.slice.new.self c.slice.result (ap bytes_for c.from.ensures) c.slice.ensures
