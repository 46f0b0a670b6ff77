use Rattle.std.proofs.Common.{◌≡◌, take}
use Rattle.kd_points.specs.Keys.{key_of}
use Rattle.kd_points.specs.Extents.{offset_of}
use Rattle.kd_points.proofs.keys.fill_key.Given as goal

abbrev pub invariant-loop-axis : goal.invariant-loop-axis
invariant-loop-axis l = l.key.items ≡ key_of (take l.axis-index l.axes) (offset_of l.extents l.row)
