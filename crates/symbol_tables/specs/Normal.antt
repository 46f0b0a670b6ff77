-- The probabilities that are written for counts (this project's choice): each symbol that is used has a slot, the
-- other slots are shared by the counts, rounded down, and what is left goes to the most frequent symbol.
use Rattle.std.specs.Prelude.{ℕ, ◌+◌, ◌-◌, ◌*◌, ◌/◌, ◌^◌, ◌<◌, ◌≤◌, ◌==◌, nat_lt, max, List, fold, map, length, sum, count_by, position}
use Rattle.std.specs.Prelude.{unwrap_or, slice_index, slice_set, if◌then◌else◌}

-- how many symbols are used
abbrev pub used_of : List ℕ → ℕ
used_of counts = count_by (λ n. nat_lt 0 n) counts

-- the greatest count
abbrev pub greatest_count : List ℕ → ℕ
greatest_count counts = fold max 0 counts

-- the first symbol with the greatest count
abbrev pub most_frequent : List ℕ → ℕ
most_frequent counts = unwrap_or (position (λ n. n == greatest_count counts) counts) 0

-- one slot and a part of the others, where the symbol is used
abbrev pub share_of : ℕ → ℕ → ℕ → ℕ
share_of others all count = if nat_lt 0 count then 1 + count * others / all else 0

-- the shares before what is left is given out
abbrev pub shares : List ℕ → ℕ → List ℕ
shares counts total = map (share_of (total - used_of counts) (sum counts)) counts

-- the probabilities for these counts, whose sum is 2 ^ bits
unfoldable pub normal : List ℕ → ℕ → List ℕ
normal counts bits = let given = shares counts (2 ^ bits) in
    slice_set given (most_frequent counts) (slice_index given (most_frequent counts) + (2 ^ bits - sum given))

-- what has a table
pub record HasTable (counts : List ℕ) (bits : ℕ) : Type 0 where
  pub some : 0 < length counts
  pub last : 0 < slice_index counts (length counts - 1)
  pub few : length counts ≤ 2 ^ 20
  pub used : used_of counts ≤ 2 ^ bits
  pub small : sum counts < 2 ^ 31
