-- Bits as symbols of the range coder.
use Rattle.std.proofs.Common.{◌≡◌, ℕ, ◌+◌, ◌-◌, ◌*◌, ◌/◌, ◌%◌, ◌<◌, ◌≤◌, Bool, true, false, nat_lt, List, [], ◌∷◌, map, length, get_or, All, sym, refl, ap, ◌∙◌, inl, inr, arith, ltb-true, ltb-false, lt-ltb, le-ltb, mul-add}
use Rattle.std.proofs.lemmas.Bool.{cases_Bool}
use Rattle.std.proofs.lemmas.List.Elements.{All-nil, All-cons}
use Rattle.rans_core.specs.Coder.{CoderState, HasSlot, Fits, Pulled, pulled, refilled, unread}
use Rattle.rans_core.proofs.Pulling.{refilled-full}
use Rattle.rans_core.proofs.Unread.{refilled-more}
use Rattle.rans_binary.specs.Blocks.{Block, bit_interval, after_bit, first_bits}

-- the slot of a bit determines the bit
pub next_bit-of_slot : (ones slot : ℕ) (bit : Bool) → HasSlot (bit_interval ones bit) slot → nat_lt slot ones ≡ bit
next_bit-of_slot ones slot true h = lt-ltb slot ones (omega arith)
next_bit-of_slot ones slot false h = le-ltb slot ones h.0

-- what is pulled are the next bits
pub first_bits-Pulled : (ones : ℕ) (s : CoderState) (bits : List Bool) → Pulled 16 256 s (map (bit_interval ones) bits) →
    first_bits (length bits) (record { ones = ones; state = s }) ≡ bits
first_bits-Pulled ones s [] h = refl
first_bits-Pulled ones s (bit ∷ bits) h =
    let t : CoderState = refilled 4096 s.number s.bytes in
    let e : nat_lt (t.number % 256) ones ≡ bit = next_bit-of_slot ones (t.number % 256) bit h.0 in
    rw e (ap (λ zs. bit ∷ zs) (first_bits-Pulled ones (pulled 256 (bit_interval ones bit) t) bits h.1))

-- the slots of a bit fit
pub interval_of-Fits : (ones : ℕ) (bit : Bool) → 0 < ones → ones < 256 → Fits 256 (bit_interval ones bit)
interval_of-Fits ones true some most = (some, omega arith)
interval_of-Fits ones false some most = (omega arith, omega arith)

pub intervals-Fit : (ones : ℕ) (bits : List Bool) → 0 < ones → ones < 256 → All (Fits 256) (map (bit_interval ones) bits)
intervals-Fit ones [] some most = All-nil (Fits 256)
intervals-Fit ones (bit ∷ bits) some most = All-cons (Fits 256) (bit_interval ones bit) (map (bit_interval ones) bits) (interval_of-Fits ones bit some most) (intervals-Fit ones bits some most)

-- one byte fills a number of at least 16
pub refilled-once : (coded : List ℕ) (left left' number b : ℕ) → left' < length coded → left ≡ left' + 1 → number < 4096 → 16 ≤ number → b ≡ get_or coded left' 0 →
    refilled 4096 number (unread coded left) ≡ record { number = number * 256 + b; bytes = unread coded left' }
refilled-once coded left left' number b h l small least e =
    rw (l, e) (refilled-more coded left' 4096 number 0 h small
    ∙ refilled-full 4096 (number * 256 + get_or coded left' 0) (unread coded left') (omega arith))

-- the state after a bit
pub after_bit-is : (ones number full out : ℕ) (bytes rest : List ℕ) → ones < 256 →
    refilled 4096 number bytes ≡ record { number = full; bytes = rest } →
    (full % 256 < ones → out ≡ full / 256 * ones + full % 256) → (ones ≤ full % 256 → out + full / 256 * ones + ones ≡ full) →
    (let a : Block = record { ones = ones; state = record { number = out; bytes = rest } } in
    let b : Block = record { ones = ones; state = record { number = number; bytes = bytes } } in a ≡ after_bit b)
after_bit-is ones number full out bytes rest most e one zero' =
    rw e (elim (cases_Bool (nat_lt (full % 256) ones)) [
      | inl t ↦ rw t (ap (stated ones rest) (one (ltb-true (full % 256) ones t) ∙ omega arith))
      | inr f ↦ rw f (let z = zero' (ltb-false (full % 256) ones f) in
          let q : ℕ = full / 256 in
          let p : q * (256 - ones) + q * ones ≡ q * 256 = sym (mul-add q (256 - ones) ones) ∙ ap (λ k. q * k) (omega arith) in
          ap (stated ones rest) (omega (arith, p, z)))
    ])
  where
    stated : ℕ → List ℕ → ℕ → Block
    stated ones rest n = record { ones = ones; state = record { number = n; bytes = rest } }
