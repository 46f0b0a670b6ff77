-- How the symbols of slots are stored. These are the code's own words.
use Rattle.std.specs.Prelude.{ℕ, List}
use Rattle.symbol_tables.specs.declared.slots.Slots.{Slots}
use Rattle.symbol_tables.specs.declared.slots.Slots.TheVariants.{Narrow, Wide}

-- the symbol of each slot
abbrev pub symbols_in : Slots → List ℕ
symbols_in (Narrow symbols) = symbols.items
symbols_in (Wide symbols) = symbols.items
