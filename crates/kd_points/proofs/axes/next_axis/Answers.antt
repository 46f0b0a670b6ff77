use Rattle.std.proofs.Common.{◌<◌, ◌+◌, arith, get_or, ap, ◌∙◌, sum}
use Rattle.kd_points.specs.Axes.{one_fewer}
use Rattle.kd_points.proofs.Fullest.{fullest-some, one_fewer-sum}
use Rattle.kd_points.proofs.axes.next_axis.Goals as goal

pub overflow_sub-left : goal.overflow_sub-left
overflow_sub-left c =
    let some : 0 < get_or c.args.left.now c.fullest-component.result 0 = rw c.fullest-component.ensures.fullest (fullest-some c.args.left.now c.requires.bits).1 in
    omega (arith, some)

pub returns-clause-fewer : goal.returns-clause-fewer
returns-clause-fewer c =
    ap (λ k. sum (one_fewer c.args.left.now k) + 1) c.fullest-component.ensures.fullest ∙ one_fewer-sum c.args.left.now c.requires.bits
