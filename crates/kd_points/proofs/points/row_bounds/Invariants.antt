use Rattle.std.proofs.Common.{◌≡◌, take}
use Rattle.attr_heads.specs.Head.{row_bounds}
use Rattle.kd_points.proofs.points.row_bounds.Given as goal

abbrev pub invariant-loop-head : goal.invariant-loop-head
invariant-loop-head l = l.row.items ≡ row_bounds (take l.head-index l.heads)
