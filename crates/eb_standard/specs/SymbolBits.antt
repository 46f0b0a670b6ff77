-- Symbols as bits (Draco Bitstream Specification 2.2, Edgebreaker standard traversal): C is the bit 0, and S, L, R and E are the
-- three bits of 1, 3, 5 and 7, the lowest first.
use Rattle.std.specs.Prelude.{ℕ, zero, suc, Bool, true, false, cond, ◌==◌, List, [], ◌∷◌, ◌++◌, Option, Some, None}
use Rattle.drc_bits.specs.Bits.{BitPlace, next_bits, after_bits, low_bits}
use Rattle.corner_table.specs.declared.symbols.Symbol.{Symbol}
use Rattle.corner_table.specs.declared.symbols.Symbol.TheVariants.{C, S, L, R, E}

-- the bits of a symbol
abbrev pub symbol_bits : Symbol → List ℕ
symbol_bits C = low_bits 1 0
symbol_bits S = low_bits 3 1
symbol_bits L = low_bits 3 3
symbol_bits R = low_bits 3 5
symbol_bits E = low_bits 3 7

-- the bits of symbols, the last symbol first
abbrev pub reversed_bits : List Symbol → List ℕ
reversed_bits [] = []
reversed_bits (x ∷ xs) = reversed_bits xs ++ symbol_bits x

-- the symbol whose first bit is 1, by the number of the other two
abbrev pub three_bit_symbol : ℕ → Symbol
three_bit_symbol zero = S
three_bit_symbol (suc zero) = L
three_bit_symbol (suc (suc zero)) = R
three_bit_symbol (suc (suc (suc n))) = E

-- a reader of symbols: its place in the bits, and whether the first bit of a longer symbol was taken whose other bits aren't there
pub record SymbolPlace : Type 0 where
  pub place : BitPlace
  pub begun : Bool

-- the symbol of the next two bits
abbrev pub longer : BitPlace → Option Symbol
longer r = elim (next_bits 2 r) [ None ↦ None | Some n ↦ Some (three_bit_symbol n) ]

-- the next symbol, where all of its bits are there
abbrev pub next_symbol : SymbolPlace → Option Symbol
next_symbol s = cond s.begun (longer s.place)
    (elim (next_bits 1 s.place) [ None ↦ None | Some b ↦ cond (b == 0) (Some C) (longer (after_bits 1 s.place)) ])

-- the reader behind the other two bits, if they are there
abbrev pub after_longer : BitPlace → SymbolPlace
after_longer r = elim (next_bits 2 r) [
  | None ↦ record { place = r; begun = true }
  | Some n ↦ record { place = after_bits 2 r; begun = false }
]

-- the reader behind the next symbol; where bits of it aren't there, no symbol follows ever
abbrev pub place_behind_symbol : SymbolPlace → SymbolPlace
place_behind_symbol s = cond s.begun (after_longer s.place)
    (elim (next_bits 1 s.place) [
      | None ↦ s
      | Some b ↦ cond (b == 0) (record { place = after_bits 1 s.place; begun = false }) (after_longer (after_bits 1 s.place))
    ])
