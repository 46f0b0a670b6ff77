use Rattle.std.proofs.Common.{◌≡◌, ◌≤◌, ◌*◌, take}
use Rattle.kd_points.specs.Extents.{depth_of}
use Rattle.kd_points.proofs.axes.depth_of.Given as goal

abbrev pub invariant-loop-extent : goal.invariant-loop-extent
invariant-loop-extent l = (l.depth ≡ depth_of (take l.extent-index l.extents)) × (l.depth ≤ 32 * l.extent-index)
