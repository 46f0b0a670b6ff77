-- What is left of the stack leads to the same.
use Rattle.std.proofs.Common.{◌≡◌, ℕ, ◌*◌, ◌<◌, map, reverse, All, vec_len}
use Rattle.corner_table.specs.Sides.{side_at}
use Rattle.walk_order.specs.PredictionDegree.{take_unvisited}
use Rattle.walk_order.specs.Stored.{marked_walk}
use Rattle.walk_order.proofs.degree_walk.take_unvisited.Given as goal

abbrev pub invariant-taking : goal.invariant-taking
invariant-taking l = record {
  within : All (λ (k : ℕ). k < 3 * l.s.faces) l.stack.items;
  same : take_unvisited (marked_walk l.marks) (map side_at (reverse l.fn.stack.items)) ≡ take_unvisited (marked_walk l.marks) (map side_at (reverse l.stack.items));
}

abbrev pub decreases-taking : goal.decreases-taking
decreases-taking l = vec_len l.stack
