use Rattle.std.proofs.Common.{length, sym, ap, arith}
use Rattle.std.proofs.lemmas.List.{drop_all}
use Rattle.drc_bits.specs.Bits.{low_bits}
use Rattle.eb_standard.specs.SymbolBits.{reversed_bits}
use Rattle.eb_standard.proofs.packing.bits_of_group.Goals as goal

pub loop-i-init : goal.loop-i-init
unfolding low_bits
loop-i-init c = (sym (ap reversed_bits (drop_all (length c.args.group.now) c.args.group.now (omega arith))), omega arith, omega arith)
