-- How many bytes a coder gives, whatever is pushed: at most four for a symbol, at most one for a bit, and at most four at the end.
use Rattle.std.proofs.Common.{◌≡◌, ℕ, zero, suc, ◌+◌, ◌-◌, ◌*◌, ◌/◌, ◌%◌, ◌^◌, ◌<◌, ◌≤◌, nat_lt, Bool, List, [], ◌∷◌, reverse, map, length, All, inl, inr, arith, length-append}
use Rattle.std.proofs.lemmas.Bool.{cases_Bool, cond-true, cond-false}
use Rattle.std.proofs.lemmas.List.{length-map, length-reverse}
use Rattle.std.proofs.lemmas.List.Elements.{All-head, All-tail}
use Rattle.rans_core.specs.Coder.{CoderState, Fits, Interval, all_pushed, all_spelled, drained, end_bytes, spelled, state_pushed}
use Rattle.rans_core.proofs.Draining.{drained-stop}
use Rattle.rans_core.proofs.Pulling.{all_pushed-Pulled}
use Rattle.rans_binary.specs.Blocks.{bit_interval, coded_bits, zeros_for}
use Rattle.rans_binary.proofs.Again.{zeros_for-bounds}
use Rattle.rans_binary.proofs.Bits.{intervals-Fit}

-- ---- the end

pub length-end_bytes : (n : ℕ) → length (end_bytes n) ≤ 4
unfolding end_bytes
length-end_bytes n =
    elim (cases_Bool (nat_lt n (2 ^ 6))) [
      | inl e ↦ rw (cond-true _ _ _ e) (omega arith)
      | inr e ↦ rw (cond-false _ _ _ e) (elim (cases_Bool (nat_lt n (2 ^ 14))) [
        | inl e ↦ rw (cond-true _ _ _ e) (omega arith)
        | inr e ↦ rw (cond-false _ _ _ e) (elim (cases_Bool (nat_lt n (2 ^ 22))) [
          | inl e ↦ rw (cond-true _ _ _ e) (omega arith)
          | inr e ↦ rw (cond-false _ _ _ e) (omega arith)
        ])
      ])
    ]

pub length-spelled : (base : ℕ) (s : CoderState) → length (spelled base s) ≤ length s.bytes + 4
length-spelled base s =
    let a = length-append (reverse s.bytes) (end_bytes (s.number - base)) in
    let r = length-reverse s.bytes in
    let e = length-end_bytes (s.number - base) in omega (arith, a, r, e)

-- ---- symbols

pub drained-most : (times limit number : ℕ) (bytes : List ℕ) → length (drained times limit number bytes).bytes ≤ length bytes + times
unfolding drained
drained-most zero limit number bytes = omega arith
drained-most (suc times) limit number bytes =
    elim (cases_Bool (nat_lt number limit)) [
      | inl e ↦ rw (cond-true _ _ _ e) (omega arith)
      | inr e ↦ rw (cond-false _ _ _ e) (let h = drained-most times limit (number / 256) (number % 256 ∷ bytes) in omega (arith, h))
    ]

pub all_pushed-most : (scale total : ℕ) (is : List Interval) → length (all_pushed scale total is).bytes ≤ 4 * length is
unfolding state_pushed
all_pushed-most scale total [] = omega arith
all_pushed-most scale total (i ∷ is) =
    let s : CoderState = all_pushed scale total is in
    let h = all_pushed-most scale total is in
    let d = drained-most 4 (256 * (scale * i.prob)) s.number s.bytes in omega (arith, h, d)

-- the coded bytes of symbols
pub all_spelled-most : (scale total : ℕ) (is : List Interval) → length (all_spelled scale total is) ≤ 4 * length is + 4
all_spelled-most scale total is =
    let s = length-spelled (scale * total) (all_pushed scale total is) in
    let p = all_pushed-most scale total is in omega (arith, s, p)

-- ---- bits

-- a number of 20 bits emits at most one byte
pub drained-one : (limit number : ℕ) (bytes : List ℕ) → 4096 ≤ limit → number < 1048576 → length (drained 4 limit number bytes).bytes ≤ length bytes + 1
unfolding drained
drained-one limit number bytes low small =
    elim (cases_Bool (nat_lt number limit)) [
      | inl e ↦ rw (cond-true _ _ _ e) (omega arith)
      | inr e ↦ rw (cond-false _ _ _ e) (rw (drained-stop 3 limit (number / 256) (number % 256 ∷ bytes) (omega (arith, low, small))) (omega arith))
    ]

pub bits_pushed-most : (is : List Interval) → All (Fits 256) is → length (all_pushed 16 256 is).bytes ≤ length is
unfolding state_pushed
bits_pushed-most [] fit = omega arith
bits_pushed-most (i ∷ is) fit =
    let s : CoderState = all_pushed 16 256 is in
    let others : All (Fits 256) is = All-tail (Fits 256) i is fit in
    let first = All-head (Fits 256) i is fit in
    let both = all_pushed-Pulled 16 256 is (omega arith) (omega arith) (omega arith) others in
    let h = bits_pushed-most is others in
    let d = drained-one (256 * (16 * i.prob)) s.number s.bytes (omega (arith, first.0)) (omega (arith, both.0.below)) in
    omega (arith, h, d)

-- the coded bytes of bits
pub coded_bits-most : (bits : List Bool) → length (coded_bits (zeros_for bits) bits) ≤ length bits + 4
coded_bits-most bits =
    let zeros : ℕ = zeros_for bits in
    let bounds = zeros_for-bounds bits in
    let is : List Interval = map (bit_interval (256 - zeros)) bits in
    let fit : All (Fits 256) is = intervals-Fit (256 - zeros) bits (omega (arith, bounds)) (omega (arith, bounds)) in
    let s = length-spelled 4096 (all_pushed 16 256 is) in
    let p = bits_pushed-most is fit in
    let l : length is ≡ length bits = length-map bits (bit_interval (256 - zeros)) in
    omega (arith, s, p, l)
