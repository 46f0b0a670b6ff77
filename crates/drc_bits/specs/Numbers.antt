-- Numbers of fixed length, little-endian (Draco Bitstream Specification 2.2, section "Core types").
use Rattle.std.specs.Prelude.{ℕ, ◌+◌, ◌*◌, List, [], ◌∷◌, ℤ, Ok}
use Rattle.std.specs.Int.{w32, cast_signed}
use Rattle.drc_base.specs.Steps.{◌>>=◌}
use Rattle.drc_bits.specs.Reading.{Reading, Item, bytes_at}

-- the number whose bytes these are, the lowest first
abbrev pub little_endian : List ℕ → ℕ
little_endian [] = 0
little_endian (b ∷ bs) = b + 256 * little_endian bs

-- a number of n bytes
abbrev pub number_at : ℕ → Reading → Item ℕ
number_at n c = bytes_at n c >>= λ x. Ok (little_endian x.0, x.1)

-- a signed number of four bytes, in two's complement
abbrev pub signed_at : Reading → Item ℤ
signed_at c = number_at 4 c >>= λ x. Ok (cast_signed w32 x.0, x.1)
