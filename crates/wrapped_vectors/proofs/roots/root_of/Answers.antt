use Rattle.std.proofs.Common.{arith}
use Rattle.wrapped_vectors.proofs.Guesses.{ends, root-none}
use Rattle.wrapped_vectors.proofs.roots.root_of.Goals as goal

pub returns-clause-value : goal.returns-clause-value
returns-clause-value c = ends c.args.x c.loop-next.r c.loop-next.next (omega arith) c.loop-next.invariant (omega arith)

pub returns-then-x-eq0-clause-value : goal.returns-then-x-eq0-clause-value
returns-then-x-eq0-clause-value c = root-none c.args.x c.if-x-eq0.true
