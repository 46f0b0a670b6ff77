use Rattle.kd_points.specs.Extents.{integer_at}
use Rattle.kd_points.proofs.Scanned.{IsScan}
use Rattle.kd_points.proofs.points.append_point.Given as goal

abbrev pub invariant-loop-component : goal.invariant-loop-component
invariant-loop-component l = IsScan l.row (integer_at l.extents l.offsets) l.before l.fn.cells.items l.cells.items l.component l.outside
