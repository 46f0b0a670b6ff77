-- Which rows can be turned back (this project's choice).
use Rattle.std.specs.Prelude.{ℕ, ◌==◌, ◌||◌, Bool, not, length, take, position, nat_le, nat_lt, Option, Result}
use Rattle.std.specs.List.{list_any, range_with_len}
use Rattle.drc_base.specs.declared.faults.Fault.{Fault}
use Rattle.drc_base.specs.declared.kinds.Kind.TheVariants.{BadMap}
use Rattle.attr_heads.specs.FirstFault.{at_place, value_unless}
use Rattle.mesh_model.specs.Renumbering.{inverted}
use Rattle.mesh_model.specs.Same.{Rows, named, turn}

-- whether row i names no row, names one that an earlier row names, or has a turn above the greatest
abbrev pub is_bad : ℕ → Rows → ℕ → Bool
is_bad greatest rows i =
    not (nat_lt (named rows i) (length rows))
    || (list_any (λ row. row.0 == named rows i) (take i rows) || not (nat_le (turn rows i) greatest))

-- the fault of the first such row, whose number it has
unfoldable pub bad_row : ℕ → Rows → Option Fault
bad_row greatest rows = at_place BadMap (position (is_bad greatest rows) (range_with_len 0 (length rows)))

-- the way back, or the first row that has none
abbrev pub inverse_of : ℕ → Rows → Result Rows Fault
inverse_of greatest rows = value_unless (bad_row greatest rows) (inverted rows)
