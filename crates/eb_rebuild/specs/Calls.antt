-- How many table calls a rebuilding that keeps the boundary by links makes (this project's own).
use Rattle.std.specs.Prelude.{ℕ}
use Rattle.corner_table.specs.declared.symbols.Symbol.{Symbol}
use Rattle.corner_table.specs.declared.symbols.Symbol.TheVariants.{C, S, L, R, E}

-- at most so many for a symbol: one makes the face; each side that it is glued to takes one to ask whether it is free, one for the side
-- that follows it and one to glue it, but the second side of a C comes before the first and is free; and C and S ask what comes before the
-- first
abbrev pub symbol_calls : Symbol → ℕ
symbol_calls E = 1
symbol_calls R = 4
symbol_calls L = 4
symbol_calls C = 6
symbol_calls S = 8
