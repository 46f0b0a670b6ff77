-- A sum of three squares is never one less than 2^64: it would be 7 modulo 8.
use Rattle.std.proofs.Common.{◌≡◌, ℕ, zero, suc, ◌+◌, ◌*◌, ◌/◌, ◌%◌, ◌^◌, ◌<◌, ◌-◌, ◌⊎◌, inl, inr, refl, arith, ℤ, pos, negsuc, ◌*ℤ◌, unsigned_abs}
use Rattle.std.proofs.lemmas.Nat.{mul-mod, mod_below}
use Rattle.wrapped_vectors.specs.Wrapped.{unsigned}
use Rattle.wrapped_vectors.specs.declared.vectors.Vector.{Vector}
use Rattle.wrapped_vectors.specs.Vectors.{dot}

-- a square is 0, 1 or 4 modulo 8
small : (r : ℕ) → r < 8 → (r * r % 8 ≡ 0) ⊎ ((r * r % 8 ≡ 1) ⊎ (r * r % 8 ≡ 4))
small zero h = inl refl
small (suc zero) h = inr (inl refl)
small (suc (suc zero)) h = inr (inr refl)
small (suc (suc (suc zero))) h = inr (inl refl)
small (suc (suc (suc (suc zero)))) h = inl refl
small (suc (suc (suc (suc (suc zero))))) h = inr (inl refl)
small (suc (suc (suc (suc (suc (suc zero)))))) h = inr (inr refl)
small (suc (suc (suc (suc (suc (suc (suc zero))))))) h = inr (inl refl)
small (suc (suc (suc (suc (suc (suc (suc (suc r)))))))) h = absurd (omega arith)

square : (a : ℕ) → (a * a % 8 ≡ 0) ⊎ ((a * a % 8 ≡ 1) ⊎ (a * a % 8 ≡ 4))
square a = rw (mul-mod a a 8) (small (a % 8) (mod_below a 8 (omega arith)))

-- numbers alone
last : (n : ℕ) → n % 2 ^ 64 ≡ 2 ^ 64 - 1 → n % 8 ≡ 7
last n is = omega arith

seven : (a b d x y z : ℕ) → (x ≡ 0) ⊎ ((x ≡ 1) ⊎ (x ≡ 4)) → (y ≡ 0) ⊎ ((y ≡ 1) ⊎ (y ≡ 4)) → (z ≡ 0) ⊎ ((z ≡ 1) ⊎ (z ≡ 4))
    → ((8 * a + x) + (8 * b + y) + (8 * d + z)) % 8 ≡ 7 → ⊥
seven a b d x y z hx hy hz is = grind arith

three : (x y z : ℕ) → (x % 8 ≡ 0) ⊎ ((x % 8 ≡ 1) ⊎ (x % 8 ≡ 4)) → (y % 8 ≡ 0) ⊎ ((y % 8 ≡ 1) ⊎ (y % 8 ≡ 4)) → (z % 8 ≡ 0) ⊎ ((z % 8 ≡ 1) ⊎ (z % 8 ≡ 4))
    → (x + y + z) % 2 ^ 64 ≡ 2 ^ 64 - 1 → ⊥
three x y z hx hy hz is =
    let sum : (8 * (x / 8) + x % 8) + (8 * (y / 8) + y % 8) + (8 * (z / 8) + z % 8) ≡ x + y + z = omega arith in
    seven (x / 8) (y / 8) (z / 8) (x % 8) (y % 8) (z % 8) hx hy hz (rw sum (last (x + y + z) is))

pub square-is : (x : ℤ) → x *ℤ x ≡ pos (unsigned_abs x * unsigned_abs x)
square-is (pos n) = refl
square-is (negsuc n) = refl

pub squares-not_last : (d : Vector) → unsigned (dot d d) ≡ 2 ^ 64 - 1 → ⊥
squares-not_last d is =
    let all : dot d d ≡ pos (unsigned_abs d.x * unsigned_abs d.x + unsigned_abs d.y * unsigned_abs d.y + unsigned_abs d.z * unsigned_abs d.z)
    = rw (square-is d.x, square-is d.y, square-is d.z) refl in
    three (unsigned_abs d.x * unsigned_abs d.x) (unsigned_abs d.y * unsigned_abs d.y) (unsigned_abs d.z * unsigned_abs d.z)
    (square (unsigned_abs d.x)) (square (unsigned_abs d.y)) (square (unsigned_abs d.z)) (rw all at is)
