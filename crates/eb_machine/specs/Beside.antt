-- The symbols L and R as one: the new face of either is glued to the top side by one side, and the corner across from that side is a new
-- vertex (Rossignac 1999). What each does stands in Machine; these are the words for both.
use Rattle.std.specs.Prelude.{ℕ}
use Rattle.corner_table.specs.declared.symbols.Symbol.{Symbol}
use Rattle.corner_table.specs.declared.symbols.Symbol.TheVariants.{L, R}
use Rattle.corner_table.specs.Sides.{Place, second, third}
use Rattle.eb_machine.specs.declared.beside.Beside.{Beside}
use Rattle.eb_machine.specs.declared.beside.Beside.TheVariants.{Left, Right}
use Rattle.eb_machine.specs.Named.{Triangle}

-- the symbol itself
abbrev pub symbol_in : Beside → Symbol
symbol_in Left = L
symbol_in Right = R

-- the side of the new face that is glued
abbrev pub glued_place : Beside → Place
glued_place Left = second
glued_place Right = third

-- the side of the new face that is free besides side 0
abbrev pub free_place : Beside → Place
free_place Left = third
free_place Right = second

-- the names of the new face's corners, where the top side runs from one vertex to another
abbrev pub new_triangle : Beside → ℕ → ℕ → ℕ → Triangle
new_triangle Left from to new = (from, new, to)
new_triangle Right from to new = (to, from, new)
