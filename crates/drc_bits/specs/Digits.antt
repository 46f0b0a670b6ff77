-- The number of binary digits of a number.
use Rattle.std.specs.Prelude.{ℕ, zero, suc, ◌+◌, ◌/◌, ◌==◌, if◌then◌else◌}

-- the number of binary digits of a number below 2 ^ most
unfoldable pub digits_in : ℕ → ℕ → ℕ
digits_in zero v = 0
digits_in (suc most) v = if v == 0 then 0 else 1 + digits_in most (v / 2)

-- the number of binary digits of a number of 32 bits
abbrev pub digits : ℕ → ℕ
digits v = digits_in 32 v
