use Rattle.std.proofs.Common.{◌<◌, ◌-◌, ◌++◌, arith, ◌∙◌, sum, get_or, length-set}
use Rattle.kd_points.specs.Axes.{axes_in, fullest}
use Rattle.kd_points.proofs.Axed.{axes_in-next, axes_in-end}
use Rattle.kd_points.proofs.Fullest.{one_fewer-sum}
use Rattle.kd_points.proofs.axes.append_axes.Goals as goal

pub loop-axis-preserved : goal.loop-axis-preserved
loop-axis-preserved c =
    let left = c.loop-axis.left in
    let whole = c.args.axes.now.items ++ axes_in c.args.depth c.args.left.now in
    let some : 0 < sum left = omega (arith, c.loop-axis.invariant.1) in
    let fewer = one_fewer-sum left some in
    rw (c.in_ok-push.ensures.items, c.next_axis-axis.ensures.axis, c.next_axis-axis.ensures.left) (
      axes_in-next c.args.depth c.loop-axis._axis left c.loop-axis.axes.items whole c.loop-axis.invariant.0 (omega arith),
      omega (arith, fewer, c.loop-axis.invariant.1),
      length-set left (fullest left) (get_or left (fullest left) 0 - 1) ∙ c.loop-axis.invariant.2,
    )

pub returns : goal.returns
returns c =
    axes_in-end c.args.depth c.loop-axis._axis c.loop-axis.left c.loop-axis.axes.items (c.args.axes.now.items ++ axes_in c.args.depth c.args.left.now) c.loop-axis.invariant.0 (omega arith)
