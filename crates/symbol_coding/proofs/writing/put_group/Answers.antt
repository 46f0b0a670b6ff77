use Rattle.symbol_coding.proofs.Widths.{put-next}
use Rattle.symbol_coding.proofs.writing.put_group.Goals as goal

pub loop-k-preserved : goal.loop-k-preserved
loop-k-preserved c = put-next c.args.width c.loop-k.k c.args.group.now c.loop-k.writer c.put.new.self _ c.loop-k-test.true c.in_ok-put.ensures.ok c.loop-k.invariant
