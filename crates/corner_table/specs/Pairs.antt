-- The pairs of a gluing, each counted once: at the one of its two sides whose face comes first (attribute seams have a bit for each pair
-- so: Draco Bitstream Specification 2.2, Edgebreaker). How many there are.
use Rattle.std.specs.Prelude.{◌≡◌, ℕ, ◌+◌, ◌*◌, ◌<◌, ◌↔◌, Bool, true, false, not, nat_lt, is_none, List, length, filter, count_by, AllPairs}
use Rattle.std.specs.Prelude.{Contains, Some, None}
use Rattle.corner_table.specs.Sides.{Side, number, Gluing, IsGluing}
use Rattle.corner_table.specs.Fans.{corners_of}

-- a side has a bit: it is glued to a side of a later face
abbrev pub has_bit : Gluing → Side → Bool
has_bit g x = elim (g x) [ None ↦ false | Some y ↦ nat_lt x.face y.face ]

-- the sides of the faces below a number that have a bit, in the order of their numbers
abbrev pub bit_sides : ℕ → Gluing → List Side
bit_sides faces g = filter (has_bit g) (corners_of faces)

-- how many pairs there are
abbrev pub pair_count : ℕ → Gluing → ℕ
pair_count faces g = length (bit_sides faces g)

-- how many sides are free
abbrev pub free_count : ℕ → Gluing → ℕ
free_count faces g = count_by (λ (x : Side). is_none (g x)) (corners_of faces)

-- of the two sides of a pair exactly one has a bit
abbrev pub OneBitEach : Type 0
OneBitEach = (faces : ℕ) (g : Gluing) → IsGluing faces g → (x y : Side) → g x ≡ Some y → has_bit g y ≡ not (has_bit g x)

-- the list has the sides with a bit, and no others
abbrev pub BitSidesAreListed : Type 0
BitSidesAreListed = (faces : ℕ) (g : Gluing) → IsGluing faces g → (x : Side) → Contains (bit_sides faces g) x ↔ (has_bit g x ≡ true)

-- each of them once, by rising numbers
abbrev pub BitSidesRise : Type 0
BitSidesRise = (faces : ℕ) (g : Gluing) → AllPairs (λ (x y : Side). number x < number y) (bit_sides faces g)

-- a pair has two sides, and each other side is free
abbrev pub PairsHaveTwoSides : Type 0
PairsHaveTwoSides = (faces : ℕ) (g : Gluing) → IsGluing faces g → 2 * pair_count faces g + free_count faces g ≡ 3 * faces
