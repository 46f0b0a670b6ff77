-- The corners so far, at most three a triangle.
use Rattle.std.proofs.Common.{◌≡◌, ◌*◌, ◌≤◌, take, sum_by}
use Rattle.eb_rebuild.specs.Counted.{times_in}
use Rattle.eb_rows.proofs.active_rows.corners_named.Given as goal

abbrev pub invariant-loop-t : goal.invariant-loop-t
invariant-loop-t l = (l.count ≡ sum_by (times_in l.vertex) (take l.t-index l.triangles)) × (l.count ≤ 3 * l.t-index)
