-- The values up to this entry are as they were, and those from it on are corrected.
use Rattle.octahedron.specs.Pairs.{pairs_of}
use Rattle.octahedron.proofs.Correcting.{Corrects}
use Rattle.octahedron.proofs.differences.correct_differences.Given as goal

abbrev pub invariant-loop-e : goal.invariant-loop-e
invariant-loop-e l = Corrects l.square.centre (pairs_of l.fn.integers) (pairs_of l.integers) l.e
