-- The precision of a coder.
use Rattle.std.proofs.Common.{ℕ, ◌^◌, ◌<◌, ◌≤◌, ◌≡◌, min, max, inl, inr, arith, pow_mono}
use Rattle.std.proofs.lemmas.Bool.{cases_lt}
use Rattle.drc_bits.specs.Digits.{digits}
use Rattle.drc_bits.proofs.Digits.{digits-above}
use Rattle.symbol_coding.specs.Block.{precision}

-- the precision for as many symbols as are used
pub enough : (used length : ℕ) → used ≤ 2 ^ 18 → length ≡ max 1 (min 18 (digits used)) → used ≤ 2 ^ precision length
enough used length few is = elim (cases_lt (digits used) 19) [
  | inl small ↦
      let above : used < 2 ^ digits used = digits-above 32 used (omega arith) in
      let room : 2 ^ digits used ≤ 2 ^ precision length = pow_mono {i = digits used} {j = precision length} (omega (arith, is, small)) in omega (arith, above, room)
  | inr large ↦
      let room : 2 ^ 20 ≤ 2 ^ precision length = pow_mono {i = 20} {j = precision length} (omega (arith, is, large)) in omega (arith, few, room)
]
