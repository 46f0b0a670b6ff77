-- Seam bits: one for each pair of sides, in the order of the sides of the lesser face (Draco Bitstream Specification 2.2, section
-- Edgebreaker Connectivity, attribute seams).
use Rattle.std.specs.Prelude.{ℕ, Bool, true, cond, List, map, Some, None}
use Rattle.std.specs.List.{position_or_len}
use Rattle.rans_binary.specs.Blocks.{Block, bit_of}
use Rattle.corner_table.specs.Sides.{Side, same, Gluing}
use Rattle.corner_table.specs.Pairs.{has_bit, bit_sides}
use Rattle.seams.specs.Seams.{flags_listed}

-- the seam bits of flags
abbrev pub seam_bits : ℕ → Gluing → (Side → Bool) → List Bool
seam_bits faces g flags = map flags (bit_sides faces g)

-- the place of a side among others
abbrev pub place_in : List Side → Side → ℕ
place_in sides x = position_or_len (same x) sides

-- flags of the sides that have a bit, given to all: to both sides of a pair, and a boundary is a seam
abbrev pub of_pairs : (Side → Bool) → Gluing → Side → Bool
of_pairs flags g x = elim (g x) [ None ↦ true | Some y ↦ flags (cond (has_bit g x) x y) ]

-- the flags that seam bits give, of which bit i is that of the side at place i
abbrev pub flag_of_bits : ℕ → Gluing → (ℕ → Bool) → Side → Bool
flag_of_bits faces g bits = of_pairs (λ x. bits (place_in (bit_sides faces g) x)) g

-- the flags that a block's next bits give
abbrev pub flags_of_bits : ℕ → Gluing → Block → List Bool
flags_of_bits faces g b = flags_listed faces (flag_of_bits faces g (bit_of b))
