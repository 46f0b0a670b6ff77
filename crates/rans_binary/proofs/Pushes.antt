-- Pushing a bit, and the bytes of a block read again.
use Rattle.std.proofs.Common.{◌≡◌, ℕ, ◌+◌, ◌*◌, ◌/◌, ◌%◌, ◌<◌, ◌≤◌, List, [], ◌∷◌, ◌++◌, reverse, sym, refl, ◌∙◌, arith, mod-lt}
use Rattle.std.proofs.lemmas.Nat.{le-div, div_below}
use Rattle.rans_core.specs.Coder.{Interval, drained, state_pushed}
use Rattle.rans_core.proofs.Pulling.{full_step}
use Rattle.rans_core.proofs.Draining.{drained-stop, drained-step}

-- the number after a push stays full
pub pushed_fits : (rest cum prob : ℕ) → 0 < prob → cum + prob ≤ 256 → 16 * prob ≤ rest → rest < 256 * (16 * prob) →
    (rest / prob * 256 + rest % prob + cum ≡ rest / prob * 256 + rest % prob + cum)
    × (4096 ≤ rest / prob * 256 + rest % prob + cum) × (rest / prob * 256 + rest % prob + cum < 1048576)
pushed_fits rest cum prob some within above below =
    let step = full_step 16 256 cum prob (rest / prob) (rest % prob) (mod-lt rest some) within (le-div 16 rest prob some above) (div_below rest prob 4096 some (omega arith)) in
    (refl, step.0, step.1)

-- one emitted byte is enough
pub drained-once : (prob number b : ℕ) (xs ys : List ℕ) → 0 < prob → number < 1048576 → 256 * (16 * prob) ≤ number → b ≡ number % 256 → ys ≡ xs ++ b ∷ [] →
    drained 4 (256 * (16 * prob)) number (reverse xs) ≡ record { number = number / 256; bytes = reverse ys }
drained-once prob number b xs ys some below above e p =
    sym (drained-step 3 4 (256 * (16 * prob)) number b xs ys above refl e p) ∙ drained-stop 3 (256 * (16 * prob)) (number / 256) (reverse ys) (omega arith)

-- what the code does at a push is the push rule
pub pushed-is : (number rest result : ℕ) (i j : Interval) (bytes out : List ℕ) → i ≡ j →
    drained 4 (256 * (16 * j.prob)) number bytes ≡ record { number = rest; bytes = out } → result ≡ rest / j.prob * 256 + rest % j.prob + j.cum →
    state_pushed 16 256 i (record { number = number; bytes = bytes }) ≡ record { number = result; bytes = out }
unfolding state_pushed
pushed-is number rest result i j bytes out same e f = rw (same, e, f) refl
