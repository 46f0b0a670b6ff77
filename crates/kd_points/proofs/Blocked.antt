-- The two blocks of a file are read again, since they are short.
use Rattle.std.proofs.Common.{◌≡◌, ℕ, zero, suc, ◌+◌, ◌-◌, ◌*◌, ◌/◌, ◌%◌, ◌^◌, ◌≤◌, Bool, true, false, List, [], ◌∷◌, length, map, reverse, sym, ◌∙◌, ap, arith, length-append}
use Rattle.std.specs.Prelude.{nat_lt, if◌then◌else◌}
use Rattle.std.proofs.Math.Nat.{mul-le-mul_left, mul_assoc, mul_comm}
use Rattle.std.proofs.lemmas.List.{length-map, length-reverse}
use Rattle.drc_base.specs.declared.limits.TheConstants.{MAX_KD_VALUES}
use Rattle.rans_core.specs.Coder.{Interval, CoderState, all_pushed, drained, end_bytes, low_bytes, state_pushed}
use Rattle.rans_binary.specs.Blocks.{IsBlockOf, block, coded_bits, bit_interval, zeros_for}
use Rattle.rans_binary.proofs.Again.{block-again}

-- how many bytes there are after a drain, after a push and after all pushes
length-drained : (times limit number : ℕ) (bytes : List ℕ) → length (drained times limit number bytes).bytes ≤ length bytes + times
unfolding drained
length-drained zero limit number bytes = omega arith
length-drained (suc times) limit number bytes =
    let stopped : CoderState = record { number = number; bytes = bytes } in
    let more : CoderState = drained times limit (number / 256) (number % 256 ∷ bytes) in
    let rest = length-drained times limit (number / 256) (number % 256 ∷ bytes) in
    elim (nat_lt number limit) as (λ b. length (if b then stopped else more).bytes ≤ length bytes + suc times) [ true ↦ omega arith | false ↦ omega (arith, rest) ]

length-pushed : (scale total : ℕ) (i : Interval) (s : CoderState) → length (state_pushed scale total i s).bytes ≤ length s.bytes + 4
unfolding state_pushed
length-pushed scale total i s = length-drained 4 (256 * (scale * i.prob)) s.number s.bytes

length-all_pushed : (scale total : ℕ) (is : List Interval) → length (all_pushed scale total is).bytes ≤ 4 * length is
length-all_pushed scale total [] = omega arith
length-all_pushed scale total (i ∷ is) = omega (arith, length-pushed scale total i (all_pushed scale total is), length-all_pushed scale total is)

-- at most four bytes end a coder
length-end_bytes : (n : ℕ) → length (end_bytes n) ≤ 4
unfolding end_bytes
length-end_bytes n =
    let one = low_bytes 1 n in
    let two = low_bytes 2 (n + 1 * 2 ^ 14) in
    let three = low_bytes 3 (n + 2 * 2 ^ 22) in
    let four = low_bytes 4 (n + 3 * 2 ^ 30) in
    elim (nat_lt n (2 ^ 6)) as (λ a. length (if a then one else (if nat_lt n (2 ^ 14) then two else (if nat_lt n (2 ^ 22) then three else four))) ≤ 4) [
      | true ↦ omega arith
      | false ↦ elim (nat_lt n (2 ^ 14)) as (λ b. length (if b then two else (if nat_lt n (2 ^ 22) then three else four)) ≤ 4) [
        | true ↦ omega arith
        | false ↦ elim (nat_lt n (2 ^ 22)) as (λ d. length (if d then three else four) ≤ 4) [ true ↦ omega arith | false ↦ omega arith ]
      ]
    ]

length-coded_bits : (zeros : ℕ) (bits : List Bool) → length (coded_bits zeros bits) ≤ 4 * length bits + 4
length-coded_bits zeros bits =
    let is : List Interval = map (bit_interval (256 - zeros)) bits in
    let s : CoderState = all_pushed 16 256 is in
    let whole : length (coded_bits zeros bits) ≡ length (reverse s.bytes) + length (end_bytes (s.number - 16 * 256)) = length-append (reverse s.bytes) (end_bytes (s.number - 16 * 256)) in
    omega (arith, whole, length-reverse s.bytes, length-end_bytes (s.number - 16 * 256), length-all_pushed 16 256 is, length-map bits (bit_interval (256 - zeros)))

-- a block of so many bits is read again
pub few-again : (bits : List Bool) → length bits ≤ 2 ^ 27 → IsBlockOf bits (block bits)
few-again bits few = block-again bits (omega (arith, few, length-coded_bits (zeros_for bits) bits))

-- as many bits as keys have together are few
pub bits_few : (n depth width bits : ℕ) → bits ≤ n * depth → depth ≤ 32 * width → n * width ≤ MAX_KD_VALUES → bits ≤ 2 ^ 27
bits_few n depth width bits most deep values =
    let product : n * depth ≤ n * (32 * width) = mul-le-mul_left n deep in
    let same : n * (32 * width) ≡ 32 * (n * width) = sym (mul_assoc n 32 width) ∙ ap (λ m. m * width) (mul_comm n 32) ∙ mul_assoc 32 n width in
    omega (arith, most, product, same, values)
