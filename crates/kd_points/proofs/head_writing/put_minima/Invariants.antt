use Rattle.std.proofs.Common.{◌≡◌, ◌++◌, ◌<◌, ◌^◌, ℕ, take, flat_map, get_or}
use Rattle.drc_bits.specs.Bits.{low_bytes}
use Rattle.kd_points.proofs.head_writing.put_minima.Given as goal

abbrev pub invariant-loop-minimum : goal.invariant-loop-minimum
invariant-loop-minimum l = (l.out.items ≡ l.fn.out.items ++ flat_map (low_bytes 4) (take l.minimum-index l.minima)) × ((j d : ℕ) → j < l.minimum-index → get_or l.minima j d < 2 ^ 32)
