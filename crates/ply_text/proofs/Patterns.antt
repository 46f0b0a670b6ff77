-- Hexadecimal digits read from the left.
use Rattle.std.proofs.Common.{◌≡◌, ℕ, ◌+◌, ◌*◌, ◌^◌, ◌<◌, ◌≤◌, ◌∙◌, ap, arith}
use Rattle.std.proofs.Math.Pow.{pow_mono}
use Rattle.std.proofs.lemmas.Nat.{pow-add}

-- below 16 to the number of digits
pub record IsHexOf (n i : ℕ) : Type 0 where
  pub below : n < 2 ^ (4 * i)

pub hex_step : (n i d : ℕ) → IsHexOf n i → d < 16 → IsHexOf (n * 16 + d) (i + 1)
hex_step n i d h small = record {
  below =
      let e : 2 ^ (4 * (i + 1)) ≡ 2 ^ (4 * i) * 16 = ap (λ k. 2 ^ k) (omega arith) ∙ pow-add 2 (4 * i) 4 in
      let b = h.below in
      omega arith;
}

pub hex_fits : (n i : ℕ) → IsHexOf n i → i < 8 → n * 16 + 15 < 2 ^ 32
hex_fits n i h lt =
    let m : 2 ^ (4 * i) ≤ 2 ^ 28 = pow_mono {i = 4 * i} {j = 28} (omega arith) in
    let b = h.below in
    omega arith
