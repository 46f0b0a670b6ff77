use Rattle.std.proofs.Common.{◌≡◌, ◌++◌, take, flat_map}
use Rattle.kd_points.specs.Written.{extent_bytes}
use Rattle.kd_points.proofs.head_writing.put_extents.Given as goal

abbrev pub invariant-loop-extent : goal.invariant-loop-extent
invariant-loop-extent l = l.out.items ≡ l.fn.out.items ++ flat_map extent_bytes (take l.extent-index l.extents)
