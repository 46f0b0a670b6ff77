-- What holds of the bits of blocks by their numbers.
use Rattle.std.specs.Prelude.{◌≡◌, ℕ, ◌+◌, ◌<◌, ◌++◌, Some, slice_get}
use Rattle.rans_binary.specs.Blocks.{Block, behind, bit_of, first_bits}

-- the bit with a number is that item of the bits
abbrev pub BitsAreNumbered : Type 0
BitsAreNumbered = (b : Block) (n k : ℕ) → k < n → slice_get (first_bits n b) k ≡ Some (bit_of b k)

-- behind some bits, the numbers go on
abbrev pub NumbersGoOn : Type 0
NumbersGoOn = (b : Block) (m k : ℕ) → bit_of (behind m b) k ≡ bit_of b (m + k)

-- the first bits, and those behind them
abbrev pub BitsGoOn : Type 0
BitsGoOn = (b : Block) (m n : ℕ) → first_bits (m + n) b ≡ first_bits m b ++ first_bits n (behind m b)
