-- The bytes of the symbols are those that were read.
use Rattle.std.proofs.Common.{length, ap, sym}
use Rattle.eb_standard.specs.SymbolBits.{SymbolPlace}
use Rattle.eb_section.proofs.sources.BitSource.read.Goals as goal

pub invariant_of-result : goal.invariant_of-result
invariant_of-result c = ap (λ (s : SymbolPlace). length s.place.bytes) (sym c.new.ensures)
