use Rattle.std.proofs.Common.{◌≡◌, take}
use Rattle.attr_section.specs.WrittenParts.{greatest_symbol}
use Rattle.attr_section.proofs.integer_writing.greatest_symbol.Given as goal

abbrev pub invariant-loop-symbol : goal.invariant-loop-symbol
invariant-loop-symbol l = l.greatest ≡ greatest_symbol (take l.symbol-index l.symbols)
