-- The faces so far are those across.
use Rattle.std.proofs.Common.{◌≡◌, ℕ, ◌<◌, length, get_or, map}
use Rattle.corner_table.specs.Sides.{side_at}
use Rattle.corner_table.specs.Ordered.{at_corner, corner_at, kept_face, no_face, ordered_from}
use Rattle.worked_surfaces.proofs.orders.faces_of.Given as goal

abbrev pub invariant-loop-e : goal.invariant-loop-e
invariant-loop-e l = let w = ordered_from l.across l.labels l.entry_of_class (map side_at l.corners) in record {
  long : length l.faces.items ≡ l.e;
  kept : (k : ℕ) → k < l.e → kept_face (get_or l.faces.items k no_face) ≡ at_corner w k (corner_at w k);
}
