use Rattle.std.proofs.Common.{◌≡◌, take, map}
use Rattle.kd_points.proofs.axes.bits_of.Given as goal

abbrev pub invariant-loop-extent : goal.invariant-loop-extent
invariant-loop-extent l = l.bits.items ≡ map (λ e. e.bits) (take l.extent-index l.extents)
