-- The values up to this entry are restored, and the corrections from it on are as they were.
use Rattle.octahedron.specs.Pairs.{pairs_of}
use Rattle.octahedron.proofs.Restoring.{Restores}
use Rattle.octahedron.proofs.differences.restore_differences.Given as goal

abbrev pub invariant-loop-e : goal.invariant-loop-e
invariant-loop-e l = Restores l.square.centre (pairs_of l.fn.integers) (pairs_of l.integers) l.e l.before
