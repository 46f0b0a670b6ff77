-- The root is the only number between whose square, and the next one, its argument lies.
use Rattle.std.proofs.Common.{◌≡◌, ℕ, zero, suc, ◌+◌, ◌*◌, ◌<◌, ◌≤◌, true, false, arith, inl, inr}
use Rattle.std.specs.Prelude.{nat_le, if◌then◌else◌}
use Rattle.std.proofs.lemmas.Bool.{cases_lt}
use Rattle.std.proofs.lemmas.Bool.Decides.{nat_tests}
use Rattle.std.proofs.lemmas.Nat.{mul-le, mul-lt}
use Rattle.wrapped_vectors.specs.Roots.{root}

-- r is the greatest number whose square is at most x
pub record IsRoot (x r : ℕ) : Type 0 where
  pub at_most : r * r ≤ x
  pub next : x < (r + 1) * (r + 1)

-- the root of the next number
step : (x r : ℕ) → IsRoot x r → IsRoot (suc x) (if nat_le (suc r * suc r) (suc x) then suc r else r)
step x r h =
    let more : (r + 1) * (r + 1) < (suc r + 1) * (suc r + 1) = mul-lt (r + 1) (r + 1) (suc r + 1) (suc r + 1) (omega arith) (omega arith) in
    elim (cases_lt (suc x) (suc r * suc r)) [
      | inl low ↦
          (let is : nat_le (suc r * suc r) (suc x) ≡ false = grind (arith, nat_tests) in
          rw is (record { at_most = omega (arith, h.at_most); next = omega (arith, low) }))
      | inr high ↦
          (let is : nat_le (suc r * suc r) (suc x) ≡ true = grind (arith, nat_tests) in
          rw is (record { at_most = high; next = omega (arith, h.next) }))
    ]

pub IsRoot-root : (x : ℕ) → IsRoot x (root x)
unfolding root
IsRoot-root zero = record { at_most = omega arith; next = omega arith }
IsRoot-root (suc x) = step x (root x) (IsRoot-root x)

not-less : (x r s : ℕ) → IsRoot x r → IsRoot x s → s ≤ r
not-less x r s hr hs =
    elim (cases_lt r s) [
      | inl less ↦
          (let squares : (r + 1) * (r + 1) ≤ s * s = mul-le (r + 1) (r + 1) s s (omega arith) (omega arith) in
          absurd (omega (arith, hr.next, hs.at_most)))
      | inr le ↦ le
    ]

-- there is one root
pub root-only : (x r s : ℕ) → IsRoot x r → IsRoot x s → r ≡ s
root-only x r s hr hs =
    let a : s ≤ r = not-less x r s hr hs in
    let b : r ≤ s = not-less x s r hs hr in
    omega arith
