-- Guesses of a root, from above.
use Rattle.std.proofs.Common.{◌≡◌, ℕ, ◌+◌, ◌-◌, ◌*◌, ◌/◌, ◌^◌, ◌<◌, ◌≤◌, inl, inr, sym, ◌∙◌, ap, subst, refl, arith}
use Rattle.std.proofs.lemmas.Bool.{cases_lt}
use Rattle.std.proofs.lemmas.Nat.{mul-le, le-div, pow-add}
use Rattle.std.proofs.Math.Nat.{add-mul, mul-add, mul_comm, div-mul-le_self, mul-le-mul_right, div-le_of_le-mul, pow-le-pow_right}
use Rattle.wrapped_vectors.specs.Roots.{root}
use Rattle.wrapped_vectors.proofs.Rooted.{IsRoot-root}

-- the root is some number
pub root-some : (x : ℕ) → 0 < x → 0 < root x
root-some x h =
    let is = IsRoot-root x in
    elim (cases_lt 0 (root x)) [
      | inl some ↦ some
      | inr none ↦ (let flat : root x ≡ 0 = omega arith in let next : x < (0 + 1) * (0 + 1) = subst (λ (n : ℕ). x < (n + 1) * (n + 1)) flat is.next in absurd (omega arith))
    ]

-- numbers alone: as far below as above gives less than the square
product-le_square : (m k : ℕ) → ((m + k) + k) * m ≤ (m + k) * (m + k)
product-le_square m k =
    let left : ((m + k) + k) * m ≡ (m * m + k * m) + k * m = add-mul (m + k) k m ∙ ap (λ (n : ℕ). n + k * m) (add-mul m k m) in
    let right : (m + k) * (m + k) ≡ (m * m + m * k) + (k * m + k * k) = add-mul m k (m + k) ∙ ap2 (mul-add m m k) (mul-add k m k) in
    let turned : m * k ≡ k * m = mul_comm m k in
    omega arith
  where
    ap2 : {a b c d : ℕ} → a ≡ b → c ≡ d → a + c ≡ b + d
    ap2 e f = cc

product-apart : (s k : ℕ) → (s + k) * (s - k) ≤ s * s
product-apart s k =
    elim (cases_lt s k) [
      | inl far ↦ (let none : s - k ≡ 0 = omega arith in rw none (let zero_times : (s + k) * 0 ≡ 0 = omega arith in omega arith))
      | inr near ↦ (let is : (s - k) + k ≡ s = omega arith in
          subst (λ (n : ℕ). (n + k) * (s - k) ≤ n * n) is (product-le_square (s - k) k))
    ]

-- the mean of a guess and of x over it isn't below a number whose square is at most x
mean-apart : (x s k : ℕ) → 0 < s + k → s * s ≤ x → s ≤ ((s + k) + x / (s + k)) / 2
mean-apart x s k hr sq =
    let below : (s - k) * (s + k) ≤ s * s = rw (mul_comm (s - k) (s + k)) (product-apart s k) in
    let most : (s - k) * (s + k) ≤ x = omega arith in
    let part : s - k ≤ x / (s + k) = le-div (s - k) x (s + k) hr most in
    omega arith

pub mean-above : (x r s : ℕ) → 0 < r → s ≤ r → s * s ≤ x → s ≤ (r + x / r) / 2
mean-above x r s hr le sq =
    let is : s + (r - s) ≡ r = omega arith in
    subst (λ (n : ℕ). s ≤ (n + x / n) / 2) is (mean-apart x s (r - s) (omega arith) sq)

pub root-none : (x : ℕ) → x ≡ 0 → 0 ≡ root x
unfolding root
root-none x is = subst (λ (n : ℕ). 0 ≡ root n) (sym is) refl

-- a guess that the mean doesn't fall below has a square of at most x
pub stays : (x r : ℕ) → 0 < r → r ≤ (r + x / r) / 2 → r * r ≤ x
stays x r hr h =
    let part : r ≤ x / r = omega arith in
    let square : r * r ≤ x / r * r = mul-le-mul_right r part in
    let most : x / r * r ≤ x = div-mul-le_self x r in
    omega arith

-- a guess from above whose square is at most x is the root
pub found : (x r : ℕ) → root x ≤ r → r * r ≤ x → r ≡ root x
found x r above square =
    let is = IsRoot-root x in
    elim (cases_lt (root x) r) [
      | inl more ↦ (let far : (root x + 1) * (root x + 1) ≤ r * r = mul-le (root x + 1) (root x + 1) r r (omega arith) (omega arith) in absurd (omega (arith, is.next)))
      | inr no_more ↦ omega arith
    ]

-- a number whose square is above x isn't below the root
pub above-root : (x r : ℕ) → x < r * r → root x ≤ r
above-root x r h =
    let is = IsRoot-root x in
    elim (cases_lt r (root x)) [
      | inl less ↦ (let far : r * r ≤ root x * root x = mul-le r r (root x) (root x) (omega arith) (omega arith) in absurd (omega (arith, is.at_most)))
      | inr le ↦ le
    ]

-- the quotient by a guess that isn't below the root is hardly greater than the guess
pub quotient-small : (x r : ℕ) → 0 < r → root x ≤ r → x / r ≤ r + 2
quotient-small x r hr above =
    let is = IsRoot-root x in
    let square : (root x + 1) * (root x + 1) ≤ (r + 1) * (r + 1) = mul-le (root x + 1) (root x + 1) (r + 1) (r + 1) (omega arith) (omega arith) in
    let spread : (r + 1) * (r + 1) ≡ (r + 1) * r + (r + 1) * 1 = mul-add (r + 1) r 1 in
    let more : (r + 1) * r ≡ r * r + 1 * r = add-mul r 1 r in
    let wide : r * (r + 2) ≡ r * r + r * 2 = mul-add r r 2 in
    div-le_of_le-mul r {m = x} {n = r + 2} (omega (arith, is.next))

-- a power of two whose square is above x
pub guess-above : (x l : ℕ) → x < 2 * 2 ^ l → root x ≤ 2 ^ (l / 2 + 1)
guess-above x l h =
    let square : 2 ^ ((l / 2 + 1) + (l / 2 + 1)) ≡ 2 ^ (l / 2 + 1) * 2 ^ (l / 2 + 1) = pow-add 2 (l / 2 + 1) (l / 2 + 1) in
    let next : 2 ^ (l + 1) ≡ 2 ^ l * 2 ^ 1 = pow-add 2 l 1 in
    let wide : 2 ^ (l + 1) ≤ 2 ^ ((l / 2 + 1) + (l / 2 + 1)) = pow-le-pow_right {n = 2} (omega arith) {i = l + 1} {j = (l / 2 + 1) + (l / 2 + 1)} (omega arith) in
    above-root x (2 ^ (l / 2 + 1)) (omega arith)

-- a guess and the next one
pub record IsGuess (x r next : ℕ) : Type 0 where
  pub above : root x ≤ r
  pub small : r ≤ 2 ^ 32
  pub next_is : next ≡ (r + x / r) / 2
  pub next_above : root x ≤ next

-- where the next guess isn't less, the guess is the root
pub ends : (x r next : ℕ) → 0 < x → IsGuess x r next → r ≤ next → r ≡ root x
ends x r next h g no_less =
    let some : 0 < root x = root-some x h in
    found x r g.above (stays x r (omega (arith, g.above)) (rw (sym g.next_is) no_less))
