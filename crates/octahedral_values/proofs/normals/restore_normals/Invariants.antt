-- The values up to this entry are restored, and the corrections from it on are as they were.
use Rattle.octahedron.specs.Pairs.{pairs_of}
use Rattle.octahedral_values.proofs.Restoring.{Restores}
use Rattle.octahedral_values.proofs.normals.restore_normals.Given as goal

abbrev pub invariant-loop-e : goal.invariant-loop-e
invariant-loop-e l = Restores l.square.centre l.sums l.flips (pairs_of l.fn.values) (pairs_of l.values) l.e
