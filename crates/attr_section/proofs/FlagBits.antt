-- Taking the flags of a list from a block of bits.
use Rattle.std.proofs.Common.{◌≡◌, ℕ, suc, ◌+◌, ◌-◌, ◌<◌, ◌≤◌, Bool, List, [], ◌∷◌, ◌++◌, sym, ◌∙◌, ap, append_assoc, append-nil, arith}
use Rattle.rans_binary.specs.Blocks.{Block, next_bit, after_bit, first_bits}

-- k of n bits were taken from a block, which is another one then
abbrev pub AreTaken : ℕ → Block → ℕ → Block → List Bool → Type 0
AreTaken n start k b bits = bits ++ first_bits (n - k) b ≡ first_bits n start

-- where a bit is left, the next one comes first
next-first : (n k : ℕ) (b : Block) → k < n → first_bits (n - k) b ≡ next_bit b ∷ first_bits (n - (k + 1)) (after_bit b)
next-first n k b more =
    let one : n - k ≡ suc (n - (k + 1)) = omega arith in
    ap (λ m. first_bits m b) one

-- no bit was taken
pub none-taken : (n : ℕ) (b : Block) (bits : List Bool) → bits ≡ [] → AreTaken n b 0 b bits
none-taken n b bits none =
    let all : n - 0 ≡ n = omega arith in
    ap (λ l. l ++ first_bits (n - 0) b) none ∙ ap (λ m. first_bits m b) all

-- one bit more is taken
pub taken-more : (n k : ℕ) (start b next : Block) (bits new : List Bool) → k < n → AreTaken n start k b bits → next ≡ after_bit b
    → new ≡ bits ++ next_bit b ∷ [] → AreTaken n start (k + 1) next new
taken-more n k start b next bits new more so after is =
    ap (λ l. l ++ first_bits (n - (k + 1)) next) is
    ∙ append_assoc bits (next_bit b ∷ []) (first_bits (n - (k + 1)) next)
    ∙ ap (λ x. bits ++ next_bit b ∷ first_bits (n - (k + 1)) x) after
    ∙ ap (λ l. bits ++ l) (sym (next-first n k b more))
    ∙ so

-- all bits are taken
pub all-taken : (n k : ℕ) (start b : Block) (bits : List Bool) → n ≤ k → AreTaken n start k b bits → bits ≡ first_bits n start
all-taken n k start b bits done so =
    let none : n - k ≡ 0 = omega arith in
    sym (append-nil bits) ∙ ap (λ m. bits ++ first_bits m b) (sym none) ∙ so
