use Rattle.kd_tree.proofs.Bits.{append-end, append-step}
use Rattle.kd_tree.proofs.writing.append_number.Goals as goal

pub loop-k-preserved : goal.loop-k-preserved
loop-k-preserved c = append-step c.args.bits c.loop-k.k c.args.number c.loop-k.out.items c.push.new.self.items _ c.loop-k-test.true c.in_ok-push.ensures.items c.loop-k.invariant

pub returns : goal.returns
returns c = append-end c.args.bits c.loop-k.k c.args.number c.loop-k.out.items _ c.loop-k-test.false c.loop-k.invariant
