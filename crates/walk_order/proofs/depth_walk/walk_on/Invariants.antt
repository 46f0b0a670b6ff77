-- The walks from the current corner and from those that wait come to the whole walk.
use Rattle.std.proofs.Common.{◌≡◌, ℕ, ◌+◌, ◌*◌, ◌<◌, All, Some, ◌∷◌, vec_len, map, reverse}
use Rattle.corner_table.specs.Sides.{side_at}
use Rattle.walk_order.specs.Visits.{unvisited}
use Rattle.walk_order.specs.DepthFirst.{walk}
use Rattle.walk_order.specs.Stored.{gluing_in, marked_walk, walks_in_turn, IsStored}
use Rattle.walk_order.proofs.depth_walk.walk_on.Given as goal

abbrev pub invariant-walking : goal.invariant-walking
invariant-walking l = record {
  within : l.at < 3 * l.s.faces;
  stored : IsStored l.s l.marks;
  stack : All (λ (k : ℕ). k < 3 * l.s.faces) l.stack.items;
  same : walk (gluing_in l.s) l.s.labels.now l.s.ends.now l.s.faces (marked_walk l.fn.marks) (Some (side_at l.start)) ≡ walks_in_turn (gluing_in l.s) l.s.labels.now l.s.ends.now l.s.faces (marked_walk l.marks) (side_at l.at ∷ map side_at (reverse l.stack.items));
}

abbrev pub decreases-walking : goal.decreases-walking
decreases-walking l = 2 * unvisited l.marks.visited.items + vec_len l.stack
