use Rattle.kd_tree.proofs.Bits.{block-step, block_bits-step}
use Rattle.kd_tree.proofs.reading.append_bits.Goals as goal

pub loop-preserved : goal.loop-preserved
loop-preserved c = record {
  bits = block_bits-step c.loop.counter c.args.block.now c.loop.block c.args.out.now.items c.loop.out.items c.push.new.self.items c.next-bit.result c.loop.invariant.bits c.loop.invariant.block c.next-bit.ensures.bit c.in_ok-push.ensures.items;
  block = block-step c.loop.counter c.args.block.now c.loop.block c.next-bit.new.self c.loop.invariant.block c.next-bit.ensures.after;
}
