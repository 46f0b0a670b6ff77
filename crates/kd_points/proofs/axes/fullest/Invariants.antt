use Rattle.std.proofs.Common.{nat_lt}
use Rattle.std.specs.List.{IsFirstBest}
use Rattle.kd_points.proofs.axes.fullest.Given as goal

-- the first of the greatest so far
abbrev pub invariant-loop-k : goal.invariant-loop-k
invariant-loop-k l = IsFirstBest (λ a b. nat_lt b a) l.left l.k l.best
