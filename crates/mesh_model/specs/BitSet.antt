-- Sets of numbers that are kept as bits (this project's choice).
use Rattle.std.specs.Prelude.{ℕ, ◌≡◌, ◌/◌, ◌%◌, List, slice_index}
use Rattle.std.specs.Int.{bit_at}

-- a number is in a set whose bits stand 64 to a word
abbrev pub HasBit : List ℕ → ℕ → Type 0
HasBit words n = bit_at (slice_index words (n / 64)) (n % 64) ≡ 1
