-- The number of the bits so far.
use Rattle.std.proofs.Common.{◌≡◌, take}
use Rattle.kd_tree.specs.Reading.{number_behind}
use Rattle.kd_points.specs.Keys.{key_of}
use Rattle.kd_points.specs.Extents.{offset_of}
use Rattle.kd_points.proofs.keys.key_number.Given as goal

abbrev pub invariant-loop-axis : goal.invariant-loop-axis
invariant-loop-axis l = l.number ≡ number_behind 0 (key_of (take l.axis-index l.axes) (offset_of l.extents l.row))
