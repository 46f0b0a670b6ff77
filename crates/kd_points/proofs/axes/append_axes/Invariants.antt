use Rattle.std.proofs.Common.{◌≡◌, ◌+◌, ◌-◌, ◌++◌, length, sum}
use Rattle.kd_points.specs.Axes.{axes_in}
use Rattle.kd_points.proofs.axes.append_axes.Given as goal

abbrev pub invariant-loop-axis : goal.invariant-loop-axis
invariant-loop-axis l =
    (l.axes.items ++ axes_in (l.depth - l._axis) l.left ≡ l.fn.axes.items ++ axes_in l.depth l.fn.left)
    × (sum l.left + l._axis ≡ l.depth)
    × (length l.left ≡ length l.fn.left)
