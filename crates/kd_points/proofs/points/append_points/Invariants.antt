use Rattle.std.proofs.Common.{◌≡◌, length, map}
use Rattle.kd_points.specs.Extents.{row_within}
use Rattle.kd_points.proofs.Scanned.{IsScanned}
use Rattle.kd_points.proofs.points.append_points.Given as goal

abbrev pub invariant-loop-point : goal.invariant-loop-point
invariant-loop-point l =
    IsScanned l.row (map (row_within l.extents) l.keys.rows) l.point l.cells.items l.outside
    × (length l.offsets ≡ length l.fn.offsets)
