-- What runs of bit lengths cost is below 2 ^ 43.
use Rattle.std.proofs.Common.{◌≡◌, ℕ, zero, suc, ◌+◌, ◌-◌, ◌*◌, ◌/◌, ◌^◌, ◌<◌, ◌≤◌, nat_lt, nat_le, ap, inl, inr, arith, pow-suc, pow_pos, mul-le-mul_right}
use Rattle.std.proofs.lemmas.Bool.{cases_Bool, cond-true, cond-false}
use Rattle.std.proofs.lemmas.Nat.{mul-le}
use Rattle.std.proofs.Math.Nat.{div-le_of_le-mul, le-div_iff_mul-le}
use Rattle.drc_base.specs.declared.limits.TheConstants.{MAX_VALUES}
use Rattle.drc_bits.specs.Digits.{digits}
use Rattle.drc_bits.proofs.Digits.{digits-above, digits-is, digits-most}
use Rattle.shortest_blocks.specs.Costs.{cost_of_entry, cost_of_gap, cost_of_run, log16}

-- a power is at most twice the one before it
halved : (d : ℕ) → 2 ^ d ≤ 2 * 2 ^ (d - 1)
halved zero = omega arith
halved (suc d) =
    let p : 2 ^ suc d ≡ 2 ^ d * 2 = pow-suc 2 d in
    let e : suc d - 1 ≡ d = omega arith in
    let q : 2 ^ (suc d - 1) ≡ 2 ^ d = ap (λ k. 2 ^ k) e in omega (arith, p, q)

pub log16-most : (x : ℕ) → x < 2 ^ 32 → log16 x < 2 ^ 10
log16-most x small =
    let most : digits x ≤ 32 = digits-most 32 x in
    let above : x < 2 ^ digits x = digits-above 32 x small in
    let half : 2 ^ digits x ≤ 2 * 2 ^ (digits x - 1) = halved (digits x) in
    let q : 16 * x / 2 ^ (digits x - 1) ≤ 32 = div-le_of_le-mul (2 ^ (digits x - 1)) {m = 16 * x} {n = 32} (omega (arith, above, half)) in
    omega (arith, most, q)

-- from the power of 2 that is at most the number
pub log16-is : (x w : ℕ) → w < 32 → 2 ^ w ≤ x → x < 2 * 2 ^ w → 16 * w + 16 * x / 2 ^ w - 16 ≡ log16 x
log16-is x w small low high =
    let d : digits x ≡ w + 1 = digits-is 32 w x small low high in
    let e : w ≡ digits x - 1 = omega (arith, d) in
    ap (λ k. 16 * k + 16 * x / 2 ^ k - 16) e

-- what is subtracted there is there
pub sixteen : (x w : ℕ) → 2 ^ w ≤ x → 16 ≤ 16 * x / 2 ^ w
sixteen x w low = (le-div_iff_mul-le {k = 2 ^ w} {x = 16} {y = 16 * x} (pow_pos w)).1 (omega (arith, low))

entry-most : (all count : ℕ) → cost_of_entry all count ≤ 256
entry-most all count = elim (cases_Bool (nat_le all (64 * count))) [
  | inl t ↦ (let e : cost_of_entry all count ≡ 256 = cond-true _ _ _ t in omega (arith, e))
  | inr f ↦ (let e : cost_of_entry all count ≡ 128 = cond-false _ _ _ f in omega (arith, e))
]

gap-most : (first symbol : ℕ) → cost_of_gap first symbol ≤ 128
gap-most first symbol = elim (cases_Bool (nat_lt first symbol)) [
  | inl t ↦ (let e : cost_of_gap first symbol ≡ 128 = cond-true _ _ _ t in omega (arith, e))
  | inr f ↦ (let e : cost_of_gap first symbol ≡ 0 = cond-false _ _ _ f in omega (arith, e))
]

-- fewer of them have no more values
pub fewer-values : (count all comps : ℕ) → count ≤ all → all * comps ≤ MAX_VALUES → count * comps ≤ MAX_VALUES
fewer-values count all comps within small = let m : count * comps ≤ all * comps = mul-le-mul_right comps within in omega (arith, m, small)

pub cost-most : (all comps first last count : ℕ) → count ≤ all → all < 2 ^ 32 → all * comps ≤ MAX_VALUES → last ≤ 32 → cost_of_run all comps first last count < 2 ^ 43
unfolding cost_of_run
cost-most all comps first last count within few small short =
    let values : count * comps * last ≤ 2 ^ 26 * 32 = mul-le (count * comps) last (2 ^ 26) 32 (fewer-values count all comps within small) short in
    let log = log16-most all few in
    let lengths : count * (log16 all - log16 count) ≤ 2 ^ 32 * 2 ^ 10 = mul-le count (log16 all - log16 count) (2 ^ 32) (2 ^ 10) (omega (arith, within, few)) (omega (arith, log)) in
    let e = entry-most all count in
    let g = gap-most first last in
    omega (arith, values, lengths, e, g)
