use Rattle.std.proofs.Common.{◌≡◌, take, get_or, pos}
use Rattle.std.specs.Int.{int_min, int_max}
use Rattle.std.specs.List.{fold}
use Rattle.kd_points.specs.Extents.{column_of}
use Rattle.kd_points.proofs.extents.reach_of.Given as goal

abbrev pub invariant-loop-p : goal.invariant-loop-p
invariant-loop-p l =
    let column = column_of l.component l.cloud.points in
    (l.low ≡ fold int_min (get_or column 0 (pos 0)) (take l.p column))
    × (l.high ≡ fold int_max (get_or column 0 (pos 0)) (take l.p column))
