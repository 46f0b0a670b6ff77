-- The numbers of symbols and of contexts (Draco Bitstream Specification 2.2, Edgebreaker valence traversal).
use Rattle.std.specs.Prelude.{ℕ, zero, suc, ◌-◌, min, max, Option, Some, None}
use Rattle.corner_table.specs.declared.symbols.Symbol.{Symbol}
use Rattle.corner_table.specs.declared.symbols.Symbol.TheVariants.{C, S, L, R, E}
use Rattle.eb_valence.specs.declared.numbers.TheConstants.{NUMBER_CAP}

-- the number that stands for a symbol
abbrev pub symbol_number : Symbol → ℕ
symbol_number C = 0
symbol_number S = 1
symbol_number L = 2
symbol_number R = 3
symbol_number E = 4

-- the symbol that a number stands for, where it stands for one
abbrev pub symbol_numbered : ℕ → Option Symbol
symbol_numbered zero = Some C
symbol_numbered (suc zero) = Some S
symbol_numbered (suc (suc zero)) = Some L
symbol_numbered (suc (suc (suc zero))) = Some R
symbol_numbered (suc (suc (suc (suc zero)))) = Some E
symbol_numbered (suc (suc (suc (suc (suc n))))) = None

-- a number as a reader keeps it: the cap stands for all that are greater, since none of them stands for a symbol
abbrev pub kept_number : ℕ → ℕ
kept_number n = min n NUMBER_CAP

-- the context of a degree: 0 up to degree 2, 5 from degree 7 on
abbrev pub context_of : ℕ → ℕ
context_of degree = min (max degree 2) 7 - 2
