use Rattle.std.proofs.Common.{◌≡◌, take, map}
use Rattle.kd_points.proofs.encoding.rows_of.Given as goal

abbrev pub invariant-loop-point : goal.invariant-loop-point
invariant-loop-point l = l.rows.items ≡ map (λ p. (p, 0)) (take l.point-index l.order)
