-- The bits of a block by their numbers.
use Rattle.std.proofs.Common.{◌≡◌, ℕ, zero, suc, ◌+◌, ◌<◌, ◌∷◌, ◌++◌, length, Some, refl, ap, ◌∙◌, arith}
use Rattle.std.specs.Prelude.{slice_get}
use Rattle.rans_binary.specs.Blocks.{Block, after_bit, behind, bit_of, first_bits, next_bit}

-- behind the next bit, and then n more
pub behind-after : (n : ℕ) (b : Block) → behind n (after_bit b) ≡ behind (suc n) b
behind-after zero b = refl
behind-after (suc n) b = ap after_bit (behind-after n b)

-- the bits behind the next one have the numbers that follow its
pub bit_of-after : (b : Block) (k : ℕ) → bit_of (after_bit b) k ≡ bit_of b (suc k)
bit_of-after b k = ap next_bit (behind-after k b)

-- behind m bits, and then n more
pub behind-behind : (m n : ℕ) (b : Block) → behind n (behind m b) ≡ behind (m + n) b
behind-behind m zero b = ap (λ k. behind k b) (let e : m ≡ m + 0 = omega arith in e)
behind-behind m (suc n) b = ap after_bit (behind-behind m n b) ∙ ap (λ k. behind k b) (let e : suc (m + n) ≡ m + suc n = omega arith in e)

-- the bits behind m bits have the numbers from m on
pub bit_of-behind : (m k : ℕ) (b : Block) → bit_of (behind m b) k ≡ bit_of b (m + k)
bit_of-behind m k b = ap next_bit (behind-behind m k b)

pub length-first_bits : (n : ℕ) (b : Block) → length (first_bits n b) ≡ n
length-first_bits zero b = refl
length-first_bits (suc n) b = ap suc (length-first_bits n (after_bit b))

-- the bit with a number is that item of the bits
pub get-first_bits : (n k : ℕ) (b : Block) → k < n → slice_get (first_bits n b) k ≡ Some (bit_of b k)
get-first_bits zero k b h = absurd (omega (arith, h))
get-first_bits (suc n) zero b h = refl
get-first_bits (suc n) (suc k) b h = get-first_bits n k (after_bit b) (omega (arith, h)) ∙ ap (λ x. Some x) (bit_of-after b k)

-- the first m bits, and then n more
pub first_bits-add : (m n : ℕ) (b : Block) → first_bits (m + n) b ≡ first_bits m b ++ first_bits n (behind m b)
first_bits-add zero n b = ap (λ k. first_bits k b) (let e : 0 + n ≡ n = omega arith in e)
first_bits-add (suc m) n b =
    ap (λ k. first_bits k b) (let e : suc m + n ≡ suc (m + n) = omega arith in e)
    ∙ ap (λ xs. next_bit b ∷ xs) (first_bits-add m n (after_bit b) ∙ ap (λ x. first_bits m (after_bit b) ++ first_bits n x) (behind-after m b))
