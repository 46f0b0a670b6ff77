-- A hash of rows, by which equal rows are found: any function of the row serves (this project's
-- choice).
use Rattle.std.specs.Prelude.{ℕ, ◌*◌, ◌/◌, ◌%◌, ◌^◌, ℤ, List, fold, bit_and, bit_xor}
use Rattle.std.specs.Int.{w32, cast_unsigned, rotate_left}

-- one more value
unfoldable pub mixed : ℕ → ℤ → ℕ
mixed hash value = (bit_xor (bit_xor hash (hash / 2 ^ 16)) (cast_unsigned w32 value) * 0x9e37_79b1) % 2 ^ 32

-- more values
abbrev pub hash_from : ℕ → List ℤ → ℕ
hash_from hash values = fold mixed hash values

-- the hash of a row
unfoldable pub row_hash : List ℤ → ℕ
row_hash row = let hash = hash_from 0 row in bit_xor hash (hash / 2 ^ 15)

-- the bucket of a hash among mask + 1
unfoldable pub bucket_of : ℕ → ℕ → ℕ
bucket_of mask hash = bit_and hash mask

-- another bucket of a hash among mask + 1, by its other half
unfoldable pub sieve_of : ℕ → ℕ → ℕ
sieve_of mask hash = bit_and (rotate_left w32 hash 16) mask
