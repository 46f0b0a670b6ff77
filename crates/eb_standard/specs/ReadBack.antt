-- A symbol is read from the bits that it is written as, and from no others (Draco Bitstream Specification 2.2, Edgebreaker standard
-- traversal).
use Rattle.std.specs.Prelude.{◌≡◌, ℕ, false, List, ◌++◌, Option, Some, None}
use Rattle.drc_bits.specs.Bits.{bits_left}
use Rattle.corner_table.specs.declared.symbols.Symbol.{Symbol}
use Rattle.eb_standard.specs.SymbolBits.{SymbolPlace, symbol_bits}

-- where the bits of a symbol come next, it is read, and exactly they are taken
abbrev pub ReadsBack : SymbolPlace → SymbolPlace → Option Symbol → Type 0
ReadsBack old new result =
    (x : Symbol) (rest : List ℕ) → old.begun ≡ false → bits_left old.place ≡ symbol_bits x ++ rest →
    (result ≡ Some x) × (bits_left new.place ≡ rest) × (new.begun ≡ false)

-- and what is read is the symbol whose bits come next
abbrev pub IsInBits : SymbolPlace → Option Symbol → Type 0
IsInBits old None = Unit {0}
IsInBits old (Some x) = old.begun ≡ false → (rest : List ℕ) × (bits_left old.place ≡ symbol_bits x ++ rest)
