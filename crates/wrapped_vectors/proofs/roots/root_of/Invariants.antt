use Rattle.wrapped_vectors.proofs.Guesses.{IsGuess}
use Rattle.wrapped_vectors.proofs.roots.root_of.Given as goal

abbrev pub invariant-loop-next : goal.invariant-loop-next
invariant-loop-next l = IsGuess l.x l.r l.next

abbrev pub decreases-loop-next : goal.decreases-loop-next
decreases-loop-next l = l.r
