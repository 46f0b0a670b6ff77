-- A point doesn't differ from itself.
use Rattle.seams.proofs.Values.{same_part}
use Rattle.seams.proofs.differences.points_differ.Goals as goal

pub returns-then-p-q : goal.returns-then-p-q
returns-then-p-q c = same_part c.args.m.now.points c.args.span.0 _ c.args.p c.args.q c.if-p-q.true
