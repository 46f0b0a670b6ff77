-- The symbols from this one on are in the number.
use Rattle.std.proofs.Common.{◌≡◌, ◌+◌, ◌*◌, ◌^◌, ◌<◌, ◌≤◌, drop, length}
use Rattle.drc_bits.specs.Bits.{low_bits}
use Rattle.eb_standard.specs.SymbolBits.{reversed_bits}
use Rattle.eb_standard.proofs.packing.bits_of_group.Given as goal

abbrev pub invariant-loop-i : goal.invariant-loop-i
invariant-loop-i l = (low_bits l.count l.word ≡ reversed_bits (drop l.i l.group))
    × (l.word < 2 ^ l.count) × (l.count + 3 * l.i ≤ 3 * length l.group)
