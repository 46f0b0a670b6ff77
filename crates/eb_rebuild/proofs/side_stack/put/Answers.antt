-- The side stands above the others, in a place that was there or in a new one.
use Rattle.std.proofs.Common.{arith}
use Rattle.eb_rebuild.proofs.Lists.{counted_down_push, counted_down_more}
use Rattle.eb_rebuild.proofs.side_stack.put.Goals as goal

pub returns-then-at-len-clause-top : goal.returns-then-at-len-clause-top
returns-then-at-len-clause-top c = counted_down_push 0 c.args.height c.args.sides.now.items c.args.side (omega arith)

pub returns-clause-top : goal.returns-clause-top
returns-clause-top c = rw c.push_reserved.ensures.items (counted_down_more 0 c.args.height c.args.sides.now.items c.args.side (omega arith))
