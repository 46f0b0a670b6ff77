-- Pairs and flags while they are being written, side after side. These are the code's own words, for the steps of the loops; what the calls
-- answer is defined in `Seams` and `SeamBits`.
use Rattle.std.specs.Prelude.{◌≡◌, ℕ, ◌*◌, ◌<◌, Bool, true, false, List, map, filter, length, get_or, Option, Some, None}
use Rattle.std.specs.List.{range_with_len}
use Rattle.corner_table.specs.Sides.{Side, number, side_at, Gluing}
use Rattle.corner_table.specs.Table.{free_entry, other_at}
use Rattle.seams.specs.Seams.{flag_at}
use Rattle.corner_table.specs.Pairs.{has_bit}

-- what the numbers of the sides say: o is the number of the other side, where the side has the bit of its pair
abbrev pub TellsLater : ℕ → Gluing → ℕ → Option ℕ → Type 0
TellsLater faces g n None = has_bit g (side_at n) ≡ false
TellsLater faces g n (Some o) = (has_bit g (side_at n) ≡ true) × (g (side_at n) ≡ Some (side_at o)) × (n < o) × (o < 3 * faces)

-- the sides below a number that have a bit
abbrev pub bit_sides_below : ℕ → Gluing → List Side
bit_sides_below n g = filter (has_bit g) (map side_at (range_with_len 0 n))

-- the flags once those of the sides below a number that have a bit were set
pub record AreToldTo (faces : ℕ) (g : Gluing) (told : Side → Bool) (n : ℕ) (flags : List Bool) : Type 0 where
  pub each_side : length flags ≡ 3 * faces
  pub boundary : (x : Side) → x.face < faces → g x ≡ None → flag_at flags x ≡ true
  pub one : (x y : Side) → g x ≡ Some y → has_bit g x ≡ true → number x < n → flag_at flags x ≡ told x
  pub other : (x y : Side) → g x ≡ Some y → has_bit g x ≡ true → number x < n → flag_at flags y ≡ told x

-- the entries of the sides below a number give their pairs
pub record TellPairs (g : Gluing) (n : ℕ) (entries : List ℕ) : Type 0 where
  pub each : length entries ≡ n
  pub pairs : (k : ℕ) → k < n → other_at (get_or entries k free_entry) ≡ g (side_at k)
