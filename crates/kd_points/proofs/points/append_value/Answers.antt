use Rattle.std.proofs.Common.{FitsSigned, w32, w64, refl, arith}
use Rattle.std.proofs.lemmas.Int.{ints, to_z-of_z}
use Rattle.kd_points.proofs.points.append_value.Goals as goal

pub overflow_cast-value : goal.overflow_cast-value
overflow_cast-value c =
    let low = c.is_within.ensures.low c.if-not-is_within.false in
    let high = c.is_within.ensures.high c.if-not-is_within.false in
    omega (arith, ints, low, high)

pub returns-clause-typed : goal.returns-clause-typed
returns-clause-typed c = λ is.
    let low = c.is_within.ensures.low c.if-not-is_within.false in
    let high = c.is_within.ensures.high c.if-not-is_within.false in
    let wide : FitsSigned w64 c.args.value = c.ranges.value in
    let fits : FitsSigned w32 c.args.value = omega (arith, ints, low, high) in
    (refl, simp to_z-of_z at c.in_ok-push.ensures.items)
