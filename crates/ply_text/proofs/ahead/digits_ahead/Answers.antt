use Rattle.std.proofs.Common.{arith}
use Rattle.ply_text.proofs.NumbersAhead.{pow_more, ahead_begun, ahead_more}
use Rattle.ply_text.proofs.ahead.digits_ahead.Goals as goal

pub loop-k-init : goal.loop-k-init
loop-k-init c = (ahead_begun c.args.text.now c.args.start, omega arith)

pub loop-k-preserved : goal.loop-k-preserved
loop-k-preserved c = (
  ahead_more c.args.text.now c.args.start c.loop-k.k c.loop-k.value (omega arith) c.if-byte-lt48.false c.if-byte-gt57.false c.loop-k.invariant.0,
  pow_more c.loop-k.k c.loop-k.value _ c.loop-k.invariant.1 (omega arith),
)
