use Rattle.std.proofs.Common.{ℕ, ◌<◌}
use Rattle.mesh_model.specs.Same.{SameCloudPoint, named, turn}
use Rattle.mesh_model.proofs.matching.same_points.Given as goal

-- the points so far are the same
abbrev pub invariant-loop-i : goal.invariant-loop-i
invariant-loop-i l = (k : ℕ) → k < l.i → SameCloudPoint l.m l.n k (named l.rows k) (turn l.rows k)
