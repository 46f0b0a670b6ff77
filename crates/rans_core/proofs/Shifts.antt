-- Shifts of one by a precision, and the number after a pull.
use Rattle.std.proofs.Common.{◌≡◌, ℕ, ◌+◌, ◌-◌, ◌*◌, ◌/◌, ◌%◌, ◌^◌, ◌<◌, ◌≤◌, arith, pow_mono, pow_pos, mul-le-mul_left, div-add-mod', mod-lt, refl}
use Rattle.std.proofs.lemmas.Nat.{one_shl, le-div, div_below}
use Rattle.rans_core.proofs.Pulling.{full_step}

pub shifted : (bits : ℕ) → bits ≤ 20 → (1 * 2 ^ bits % 2 ^ 32 ≡ 2 ^ bits) × (2 ^ bits ≤ 2 ^ 20) × (1 ≤ 2 ^ bits)
shifted bits h = (one_shl bits 32 (omega arith), pow_mono {i = bits} {j = 20} h, pow_pos bits)

-- a pull doesn't raise the number
pub pulled-le : (number total slot cum prob : ℕ) → slot ≡ number % total → cum ≤ slot → cum + prob ≤ total → number / total * prob + (slot - cum) ≤ number
pulled-le number total slot cum prob e h k =
    let a : number / total * prob ≤ number / total * total = mul-le-mul_left (number / total) (omega arith) in
    let b : number / total * total + number % total ≡ number = div-add-mod' number total in
    omega (arith, a, b)

-- the number after a push stays full
pub pushed_fits : (rest bits cum prob : ℕ) → 0 < prob → cum + prob ≤ 2 ^ bits → 4 * prob ≤ rest → rest < 1024 * prob →
    (rest / prob * 2 ^ bits + rest % prob + cum ≡ rest / prob * 2 ^ bits + rest % prob + cum)
    × (4 * 2 ^ bits ≤ rest / prob * 2 ^ bits + rest % prob + cum) × (rest / prob * 2 ^ bits + rest % prob + cum < 256 * (4 * 2 ^ bits))
pushed_fits rest bits cum prob some within above below =
    let step = full_step 4 (2 ^ bits) cum prob (rest / prob) (rest % prob) (mod-lt rest some) within (le-div 4 rest prob some above) (div_below rest prob 1024 some (omega arith)) in
    (refl, step.0, step.1)
