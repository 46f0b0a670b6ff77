-- The symbols that are left come behind those that were put.
use Rattle.std.proofs.Common.{◌≡◌, ◌++◌}
use Rattle.std.specs.Slice.Iter.{rchunks_rest, rchunks_size}
use Rattle.eb_standard.specs.SymbolBits.{reversed_bits}
use Rattle.eb_standard.specs.declared.packing.TheConstants.{GROUP}
use Rattle.eb_standard.proofs.packing.pack.Given as goal

abbrev pub invariant-loop-group : goal.invariant-loop-group
invariant-loop-group l = (l.bits ++ reversed_bits (rchunks_rest l.group-iterator) ≡ reversed_bits l.symbols)
    × (rchunks_size l.group-iterator ≡ GROUP)
