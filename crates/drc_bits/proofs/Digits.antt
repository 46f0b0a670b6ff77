-- The number of binary digits of a number.
use Rattle.std.proofs.Common.{◌≡◌, ℕ, zero, suc, ◌+◌, ◌*◌, ◌/◌, ◌^◌, ◌<◌, ◌≤◌, sym, refl, ap, ◌∙◌, subst, inl, inr, arith, pow-suc, pow_pos, ne_eqb}
use Rattle.std.proofs.lemmas.Bool.{cases_lt, cond-false}
use Rattle.drc_bits.specs.Digits.{digits_in}

-- v is not 0
pub step : (most v : ℕ) → 0 < v → digits_in (suc most) v ≡ 1 + digits_in most (v / 2)
unfolding digits_in
step most v h = cond-false _ _ _ (ne_eqb v 0 (λ e. absurd (omega (arith, e, h))))

pub nothing : (most : ℕ) → digits_in most 0 ≡ 0
unfolding digits_in
nothing zero = refl
nothing (suc most) = refl

none : (v : ℕ) → 0 ≡ digits_in 0 v
unfolding digits_in
none v = refl

-- a number from 2 ^ d up to 2 ^ (d + 1) has d + 1 digits
pub digits-is : (most d v : ℕ) → d < most → 2 ^ d ≤ v → v < 2 * 2 ^ d → digits_in most v ≡ d + 1
digits-is zero d v inside low high = absurd (omega arith)
digits-is (suc most) zero v inside low high =
    let e : v / 2 ≡ 0 = omega arith in
    step most v (omega arith) ∙ ap (λ n. 1 + digits_in most n) e ∙ ap (λ n. 1 + n) (nothing most)
digits-is (suc most) (suc d) v inside low high =
    let p : 2 ^ suc d ≡ 2 ^ d * 2 = pow-suc 2 d in
    let some : 1 ≤ 2 ^ d = pow_pos d in
    let rest : digits_in most (v / 2) ≡ d + 1 = digits-is most d (v / 2) (omega arith) (omega (arith, p, low)) (omega (arith, p, high)) in
    step most v (omega (arith, p, low, some)) ∙ omega (arith, rest)

-- a number is below 2 to the power of its digits
pub digits-above : (most v : ℕ) → v < 2 ^ most → v < 2 ^ digits_in most v
digits-above zero v h = subst (λ n. v < 2 ^ n) (none v) h
digits-above (suc most) v h = elim (cases_lt 0 v) [
  | inl some ↦
      let p : 2 ^ suc most ≡ 2 ^ most * 2 = pow-suc 2 most in
      let half : v / 2 < 2 ^ most = omega (arith, p, h) in
      let rest : v / 2 < 2 ^ digits_in most (v / 2) = digits-above most (v / 2) half in
      let q : 2 ^ suc (digits_in most (v / 2)) ≡ 2 ^ digits_in most (v / 2) * 2 = pow-suc 2 (digits_in most (v / 2)) in
      let one : suc (digits_in most (v / 2)) ≡ digits_in (suc most) v = (let e : suc (digits_in most (v / 2)) ≡ 1 + digits_in most (v / 2) = omega arith in e) ∙ sym (step most v some) in
      subst (λ n. v < 2 ^ n) one (omega (arith, q, rest))
  | inr low ↦ let p = pow_pos (digits_in (suc most) v) in omega (arith, low, p)
]

pub digits-most : (most v : ℕ) → digits_in most v ≤ most
digits-most zero v = let e = none v in omega (arith, e)
digits-most (suc most) v = elim (cases_lt 0 v) [
  | inl some ↦ (let rest = digits-most most (v / 2) in let e = step most v some in omega (arith, rest, e))
  | inr low ↦ (let z : v ≡ 0 = omega arith in let e : digits_in (suc most) v ≡ 0 = ap (digits_in (suc most)) z ∙ nothing (suc most) in omega (arith, e))
]
