use Rattle.eb_section.proofs.WrittenLoops.{next-side}
use Rattle.eb_section.proofs.writing_events.sides_of.Goals as goal

pub loop-i-preserved : goal.loop-i-preserved
loop-i-preserved c =
    next-side c.args.events.now c.loop-i.i c.bit_of_side.result _ c.loop-i.bits c.put.new.self c.loop-i-test.true c.loop-i.invariant c.bit_of_side.ensures.is c.in_ok-put.ensures.ok
