use Rattle.eb_section.proofs.WrittenLoops.{next-numbers, all-numbers}
use Rattle.eb_section.proofs.writing_events.put_numbers.Goals as goal

pub loop-i-preserved : goal.loop-i-preserved
loop-i-preserved c =
    let n = next-numbers c.args.events.now c.loop-i.i c.loop-i.before _ c.loop-i.out.items c.put_event.new.out.items _
    c.loop-i-test.true c.loop-i.invariant.bytes c.loop-i.invariant.rise c.in_ok-put_event.ensures in
    record { bytes = n.bytes; rise = n.rise }

pub returns : goal.returns
returns c = all-numbers c.args.events.now c.loop-i.i c.loop-i.before c.loop-i.out.items _ c.loop-i-test.false c.loop-i.invariant.bytes
