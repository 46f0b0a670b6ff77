use Rattle.std.proofs.Common.{◌≡◌, ◌++◌, ◌<◌, ◌^◌, take, flat_map}
use Rattle.std.specs.List.{All}
use Rattle.drc_bits.specs.Bits.{low_bytes}
use Rattle.attr_section.proofs.quant_writing.put_minima.Given as goal

abbrev pub invariant-loop-minimum : goal.invariant-loop-minimum
invariant-loop-minimum l =
    (l.out.items ≡ l.fn.out.items ++ flat_map (low_bytes 4) (take l.minimum-index l.minima))
    × All (λ m. m < 2 ^ 32) (take l.minimum-index l.minima)
