use Rattle.std.proofs.Common.{◌≡◌, ◌++◌, replicate}
use Rattle.kd_points.proofs.points.append_bounds.Given as goal

abbrev pub invariant-loop-component : goal.invariant-loop-component
invariant-loop-component l = l.row.items ≡ l.fn.row.items ++ replicate l._component l.bounds
