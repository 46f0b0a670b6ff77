use Rattle.std.proofs.Common.{◌-◌, arith}
use Rattle.rans_core.specs.Coder.{unread}
use Rattle.rans_core.proofs.Pulling.{refilled-full}
use Rattle.rans_binary.proofs.Bits.{refilled-once}
use Rattle.rans_binary.proofs.block_reader.refill_once.Goals as goal

pub returns-then-number-ge4096-clause-refills : goal.returns-then-number-ge4096-clause-refills
returns-then-number-ge4096-clause-refills c = refilled-full 4096 c.args.number (unread c.args.coded.now c.args.left) c.if-number-ge4096.true

pub returns-clause-refills : goal.returns-clause-refills
returns-clause-refills c =
    refilled-once c.args.coded.now c.args.left (c.args.left - 1) c.args.number c.from.result (omega arith) (omega arith) c.if-number-ge4096.false
    (c.requires.least (omega arith)) c.from.ensures
