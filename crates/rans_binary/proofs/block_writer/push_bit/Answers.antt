use Rattle.std.proofs.Common.{reverse, refl}
use Rattle.rans_binary.proofs.Pushes.{pushed-is}
use Rattle.rans_binary.proofs.block_writer.push_bit.Goals as goal

pub returns-clause-pushed : goal.returns-clause-pushed
returns-clause-pushed c =
    pushed-is c.args.number c.in_ok-rest.rest c.number_with.result (record { cum = c.args.slots.below; prob = c.args.slots.count }) (record { cum = c.args.slots.below; prob = c.args.slots.count })
    (reverse c.args.out.now.items) (reverse c.drain_once.new.out.items) refl c.in_ok-rest.ensures.drained c.number_with.ensures.pushed
