-- The bit lengths of groups, and what they become where neighbouring lengths are joined (this project's choice): fewer lengths
-- occur, and cost fewer bytes, and some groups have more bits than they need.
use Rattle.std.specs.Prelude.{ℕ, ◌-◌, ◌/◌, List, map, length, slice_index, slice_index_or}
use Rattle.drc_bits.specs.Digits.{digits}
use Rattle.symbol_tables.specs.Normal.{greatest_count}
use Rattle.symbol_coding.specs.Block.{groups_of}
use Rattle.symbol_coding.specs.Symbols.{counts_of}
use Rattle.shortest_blocks.specs.declared.cuts.Cut.{Cut}
use Rattle.shortest_blocks.specs.Cuts.{cuts_below, no_cut}

-- the digits of the greatest value of a group: 0 where all are 0
abbrev pub digits_of_group : List ℕ → ℕ
digits_of_group group = digits (greatest_count group)

-- the digits of the groups of so many components
unfoldable pub digits_of_groups : ℕ → List ℕ → List ℕ
digits_of_groups comps values = map digits_of_group (groups_of (length values / comps) comps values)

-- the last of cuts
abbrev pub last_cut : List Cut → Cut
last_cut cuts = slice_index_or cuts (length cuts - 1) no_cut

-- the best cut of all lengths that occur
abbrev pub cut_of : ℕ → List ℕ → Cut
cut_of comps lengths = last_cut (cuts_below (counts_of lengths) (length lengths) comps (length (counts_of lengths)))

-- what the bit lengths of groups of so many components become
unfoldable pub joined_lengths : ℕ → List ℕ → List ℕ
joined_lengths comps lengths = map (λ l. slice_index (cut_of comps lengths).joined l) lengths
