-- Whole numbers taken to 64 bits, as integers of Draco 1.5.5 are (that what passes 64 bits wraps is this project's choice).
use Rattle.std.specs.Prelude.{ℕ, ◌^◌, ℤ, pos, unsigned_abs}
use Rattle.std.specs.Int.{w64, int_wrap, int_rem_euclid}

-- in two's complement
abbrev pub signed : ℤ → ℤ
signed z = int_wrap w64 z

-- modulo 2^64
abbrev pub unsigned : ℤ → ℕ
unsigned z = unsigned_abs (int_rem_euclid z (pos (2 ^ 64)))
