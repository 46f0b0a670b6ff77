use Rattle.std.proofs.Common.{◌≡◌, length, arith, subst, nat_lt}
use Rattle.std.specs.List.{IsFirstBest}
use Rattle.kd_points.proofs.Fullest.{fullest-is}
use Rattle.kd_points.proofs.axes.fullest.Goals as goal

pub returns-clause-fullest : goal.returns-clause-fullest
returns-clause-fullest c =
    let end : c.loop-k.k ≡ length c.args.left.now = omega arith in
    fullest-is c.args.left.now c.loop-k.best (subst (λ k. IsFirstBest (λ x y. nat_lt y x) c.args.left.now k c.loop-k.best) end c.loop-k.invariant)
