-- Keys of points: lists of bits, the first of which divides the whole cloud (this project's choice).
use Rattle.std.specs.Prelude.{ℕ, Bool, false, not, List, [], slice_index_or}

-- the bits of a point
abbrev pub Key : Type 0
Key = List Bool

-- keys in their order, each of this many bits
pub record KeyRows : Type 0 where
  pub depth : ℕ
  pub rows : List Key

-- the bit of a key at a depth
abbrev pub bit_at : ℕ → Key → Bool
bit_at d key = slice_index_or key d false

-- whether that bit is 0
abbrev pub is_low : ℕ → Key → Bool
is_low d key = not (bit_at d key)

-- the key with this number, counted from 0
abbrev pub key_at : List Key → ℕ → Key
key_at keys i = slice_index_or keys i []
