-- Reductions on the way change nothing.
use Rattle.std.proofs.Common.{◌≡◌, ℕ, ◌%◌, ◌^◌, ◌<◌, ℤ, pos, negsuc, neg_ℤ, refl, arith, ◌+ℤ◌, ◌-ℤ◌, ◌*ℤ◌, sym, ◌∙◌, ap}
use Rattle.std.specs.Int.{w64, int_wrap, cast_unsigned, cast_signed}
use Rattle.std.proofs.lemmas.Int.{int_wrap-add_left, int_wrap-add_right, int_wrap-sub_right, int_wrap-mul_left, int_wrap-mul_right, of_z-to_z}
use Rattle.std.proofs.lemmas.Nat.{mod_below}
use Rattle.wrapped_vectors.specs.Wrapped.{signed, unsigned}

pub signed-sum : (a b : ℤ) → signed (signed a +ℤ signed b) ≡ signed (a +ℤ b)
signed-sum a b = int_wrap-add_left w64 a (signed b) ∙ int_wrap-add_right w64 a b

pub signed-product : (a b : ℤ) → signed (signed a *ℤ signed b) ≡ signed (a *ℤ b)
signed-product a b = int_wrap-mul_left w64 a (signed b) ∙ int_wrap-mul_right w64 a b

pub signed-difference : (a b : ℤ) → signed (signed a -ℤ signed b) ≡ signed (a -ℤ b)
signed-difference a b = int_wrap-sub_right w64 (signed a) b ∙ int_wrap-add_left w64 a (neg_ℤ b)

-- three numbers, summed in two steps
pub three : (a b c x y z xy r : ℤ) → x ≡ signed a → y ≡ signed b → z ≡ signed c → xy ≡ signed (x +ℤ y) → r ≡ signed (xy +ℤ z) → r ≡ signed ((a +ℤ b) +ℤ c)
three a b c x y z xy r ex ey ez exy er =
    rw (er, exy, ex, ey, ez) (ap (λ v. signed (v +ℤ signed c)) (signed-sum a b) ∙ signed-sum (a +ℤ b) c)

-- two products and their difference
pub products-apart : (a b x y r : ℤ) → x ≡ signed a → y ≡ signed b → r ≡ signed (x -ℤ y) → r ≡ signed (a -ℤ b)
products-apart a b x y r ex ey er = rw (er, ex, ey) (signed-difference a b)

-- ---- numbers from 0

pub unsigned-small : (z : ℤ) → unsigned z < 2 ^ 64
unsigned-small (pos n) = mod_below n (2 ^ 64) (omega arith)
unsigned-small (negsuc n) = let h : n % 2 ^ 64 < 2 ^ 64 = mod_below n (2 ^ 64) (omega arith) in omega arith

-- what is kept of a sum as bits is the sum modulo 2^64
pub unsigned-signed : (z : ℤ) → cast_unsigned w64 (signed z) ≡ unsigned z
unfolding int_wrap
unsigned-signed z = of_z-to_z w64 (unsigned z) (unsigned-small z)

pub signed-from : (n : ℕ) → n < 2 ^ 64 → cast_signed w64 n ≡ signed (pos n)
unfolding int_wrap
signed-from n h = let is : n % 2 ^ 64 ≡ n = omega arith in rw is refl

-- the same number to 64 bits
pub unsigned-same : (a b : ℤ) → signed a ≡ signed b → unsigned a ≡ unsigned b
unsigned-same a b is = sym (unsigned-signed a) ∙ ap (cast_unsigned w64) is ∙ unsigned-signed b
