use Rattle.std.proofs.Common.{◌≡◌, ◌<◌, ℤ, pos, List, [], length, get_or, take, sym, ◌∙◌, ap, arith}
use Rattle.std.specs.Int.{int_min, int_max}
use Rattle.std.proofs.lemmas.Int.{to_z-of_z}
use Rattle.std.proofs.lemmas.List.{length-map, get_or-map}
use Rattle.std.proofs.lemmas.List.Sums.{fold_more}
use Rattle.kd_points.specs.Extents.{column_of}
use Rattle.kd_points.proofs.Extended.{between}
use Rattle.kd_points.proofs.extents.reach_of.Goals as goal

pub loop-p-preserved : goal.loop-p-preserved
loop-p-preserved c =
    let points = c.args.cloud.now.points in
    let column = column_of c.args.component points in
    let cell = λ (row : List ℤ). get_or row c.args.component (pos 0) in
    let inside : c.loop-p.p < length points = omega arith in
    let within : c.loop-p.p < length column = omega (arith, inside, length-map points cell) in
    let value : get_or column c.loop-p.p (pos 0) ≡ get_or c.point-in-loop-p.result.now c.args.component (pos 0) = get_or-map cell points c.loop-p.p [] (pos 0) inside ∙ ap cell (sym c.point-in-loop-p.ensures.row) in
    let low = fold_more int_min (get_or column 0 (pos 0)) column c.loop-p.p (pos 0) within in
    let high = fold_more int_max (get_or column 0 (pos 0)) column c.loop-p.p (pos 0) within in
    (grind (arith, to_z-of_z, low, value, c.loop-p.invariant.0), grind (arith, to_z-of_z, high, value, c.loop-p.invariant.1))

pub returns-clause-order : goal.returns-clause-order
returns-clause-order c =
    let column = column_of c.args.component c.args.cloud.now.points in
    rw (c.loop-p.invariant.0, c.loop-p.invariant.1) (between (get_or column 0 (pos 0)) (take c.loop-p.p column) (take c.loop-p.p column))
