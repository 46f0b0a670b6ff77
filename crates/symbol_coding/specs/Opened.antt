-- A block that was opened.
use Rattle.std.specs.Prelude.{ℕ, List}
use Rattle.symbol_coding.specs.declared.reading.Symbols.{Symbols}
use Rattle.symbol_coding.specs.declared.reading.Symbols.TheVariants.{Coded, Listed}

-- all its values, those that are still to come included
abbrev pub values_of : Symbols → List ℕ
values_of (Coded symbols) = symbols
values_of (Listed values) = values.items
