-- The whole part of a square root (Draco 1.5.5, IntSqrt).
use Rattle.std.specs.Prelude.{ℕ, zero, suc, ◌*◌, nat_le, if◌then◌else◌}

-- the greatest number whose square is at most x
unfoldable pub root : ℕ → ℕ
root zero = 0
root (suc x) = if nat_le (suc (root x) * suc (root x)) (suc x) then suc (root x) else root x
