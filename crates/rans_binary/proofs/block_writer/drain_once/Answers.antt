use Rattle.std.proofs.Common.{◌*◌, reverse, arith}
use Rattle.std.proofs.lemmas.Nat.{and_mask}
use Rattle.rans_core.proofs.Draining.{drained-stop}
use Rattle.rans_binary.proofs.Pushes.{drained-once}
use Rattle.rans_binary.proofs.block_writer.drain_once.Goals as goal

pub returns-then-number-prob-clause-drained : goal.returns-then-number-prob-clause-drained
returns-then-number-prob-clause-drained c = drained-stop 4 (256 * (16 * c.args.prob)) c.args.number (reverse c.args.out.now.items) (omega arith)

pub returns-clause-drained : goal.returns-clause-drained
returns-clause-drained c =
    drained-once c.args.prob c.args.number _ c.args.out.now.items c.push.new.self.items c.requires.some (omega arith) (omega arith)
    (and_mask c.args.number 8) c.in_ok-push.ensures.items
