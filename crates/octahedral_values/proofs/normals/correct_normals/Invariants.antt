-- The values up to this entry are corrected, and those from it on are as they were.
use Rattle.octahedron.specs.Pairs.{pairs_of}
use Rattle.octahedral_values.proofs.Correcting.{Corrects}
use Rattle.octahedral_values.proofs.normals.correct_normals.Given as goal

abbrev pub invariant-loop-e : goal.invariant-loop-e
invariant-loop-e l = Corrects l.square.centre l.sums l.flips (pairs_of l.fn.values) (pairs_of l.values) l.e
