-- The blocks of the entropy codings are bytes, whatever is coded.
use Rattle.std.proofs.Common.{ℕ, zero, suc, ◌+◌, ◌-◌, ◌*◌, ◌/◌, ◌%◌, ◌^◌, ◌<◌, ◌≤◌, ◌==◌, nat_lt, min, Bool, All, List, [], ◌∷◌, ◌++◌, length, map, sum, get_or, reverse, inl, inr, arith, pow_mono}
use Rattle.std.proofs.Math.Nat.{div-le_of_le-mul}
use Rattle.std.proofs.lemmas.Nat.{mul-le}
use Rattle.std.proofs.lemmas.Bool.{cases_Bool, cases_lt, cond-true, cond-false, ltb-true}
use Rattle.std.proofs.lemmas.List.{get_or_past}
use Rattle.std.proofs.lemmas.List.Elements.{All-head, All-tail, All-map, All-set}
use Rattle.std.proofs.lemmas.List.Sums.{get_or-le-sum_by}
use Rattle.drc_bits.specs.Bits.{AreBits, low_bits, packed}
use Rattle.drc_bits.specs.Varint.{spelling}
use Rattle.drc_bits.proofs.PackedBits.{AreBits-append, AreBits-low_bits}
use Rattle.rans_core.specs.Coder.{Interval, CoderState, drained, state_pushed, all_pushed, low_bytes, end_bytes, all_spelled}
use Rattle.rans_binary.specs.Blocks.{zeros_for, coded_bits, block}
use Rattle.symbol_tables.specs.Tables.{zeros_before, prob_bytes, probs_bytes, table_bytes}
use Rattle.symbol_tables.specs.Normal.{used_of, most_frequent, share_of, shares, normal}
use Rattle.symbol_coding.specs.Symbols.{counts_of, interval_of, coded_bytes}
use Rattle.symbol_coding.specs.Block.{precision, lengths_of, widths, value_bits, raw_length, raw_bytes, is_raw, tagged_bytes, block_bytes}
use Rattle.laws_stream.proofs.bytes.Lists.{AreBytes, no-bytes, byte-then, joined, reversed, spelled, packed-bytes}

-- ---- a coder

drained-bytes : (times limit number : ℕ) (bytes : List ℕ) → AreBytes bytes → AreBytes (drained times limit number bytes).bytes
unfolding drained
drained-bytes zero limit number bytes are = are
drained-bytes (suc times) limit number bytes are = elim (cases_Bool (nat_lt number limit)) [
  | inl t ↦ rw (cond-true _ _ _ t) are
  | inr f ↦ rw (cond-false _ _ _ f) (drained-bytes times limit (number / 256) (number % 256 ∷ bytes) (byte-then (number % 256) bytes (omega arith) are))
]

state_pushed-bytes : (scale total : ℕ) (i : Interval) (s : CoderState) → AreBytes s.bytes → AreBytes (state_pushed scale total i s).bytes
unfolding state_pushed
state_pushed-bytes scale total i s are = drained-bytes 4 (256 * (scale * i.prob)) s.number s.bytes are

all_pushed-bytes : (scale total : ℕ) (is : List Interval) → AreBytes (all_pushed scale total is).bytes
all_pushed-bytes scale total [] = no-bytes
all_pushed-bytes scale total (i ∷ is) = state_pushed-bytes scale total i (all_pushed scale total is) (all_pushed-bytes scale total is)

low-bytes : (n number : ℕ) → AreBytes (low_bytes n number)
low-bytes zero number = no-bytes
low-bytes (suc n) number = byte-then (number % 256) (low_bytes n (number / 256)) (omega arith) (low-bytes n (number / 256))

end-bytes : (n : ℕ) → AreBytes (end_bytes n)
unfolding end_bytes
end-bytes n = elim (cases_Bool (nat_lt n (2 ^ 6))) [
  | inl t ↦ rw (cond-true _ _ _ t) (low-bytes 1 n)
  | inr f ↦ rw (cond-false _ _ _ f) (elim (cases_Bool (nat_lt n (2 ^ 14))) [
    | inl t ↦ rw (cond-true _ _ _ t) (low-bytes 2 (n + 1 * 2 ^ 14))
    | inr f ↦ rw (cond-false _ _ _ f) (elim (cases_Bool (nat_lt n (2 ^ 22))) [
      | inl t ↦ rw (cond-true _ _ _ t) (low-bytes 3 (n + 2 * 2 ^ 22))
      | inr f ↦ rw (cond-false _ _ _ f) (low-bytes 4 (n + 3 * 2 ^ 30))
    ])
  ])
]

-- the bytes of a coder
all_spelled-bytes : (scale total : ℕ) (is : List Interval) → AreBytes (all_spelled scale total is)
all_spelled-bytes scale total is =
    let s = all_pushed scale total is in
    joined (reverse s.bytes) (end_bytes (s.number - scale * total)) (reversed s.bytes (all_pushed-bytes scale total is)) (end-bytes (s.number - scale * total))

-- ---- blocks of bits

pub block-bytes : (bits : List Bool) → AreBytes (block bits)
unfolding block
block-bytes bits =
    let coded = coded_bits (zeros_for bits) bits in
    byte-then (zeros_for bits) (spelling 5 (length coded) ++ coded) (omega arith)
    (joined (spelling 5 (length coded)) coded (spelled 5 (length coded)) (all_spelled-bytes 16 256 _))

-- ---- tables

-- a probability below 2^22
prob-bytes : (p : ℕ) → p < 2 ^ 22 → AreBytes (prob_bytes p)
unfolding prob_bytes
prob-bytes p small = elim (cases_Bool (nat_lt p (2 ^ 6))) [
  | inl t ↦ rw (cond-true _ _ _ t) (let low = ltb-true p (2 ^ 6) t in byte-then (4 * p) [] (omega (arith, low)) no-bytes)
  | inr f ↦ rw (cond-false _ _ _ f) (elim (cases_Bool (nat_lt p (2 ^ 14))) [
    | inl t ↦ rw (cond-true _ _ _ t) (
        let low = ltb-true p (2 ^ 14) t in
        byte-then (4 * (p % 64) + 1) (p / 64 ∷ []) (omega arith) (byte-then (p / 64) [] (omega (arith, low)) no-bytes))
    | inr f ↦ rw (cond-false _ _ _ f) (
        byte-then (4 * (p % 64) + 2) (p / 64 % 256 ∷ p / 16384 ∷ []) (omega arith)
        (byte-then (p / 64 % 256) (p / 16384 ∷ []) (omega arith) (byte-then (p / 16384) [] (omega (arith, small)) no-bytes)))
  ])
]

abbrev AreProbs : List ℕ → Type 0
AreProbs probs = All (λ p. p < 2 ^ 22) probs

probs-bytes : (run : ℕ) (probs : List ℕ) → AreProbs probs → AreBytes (probs_bytes run probs)
unfolding probs_bytes
probs-bytes run [] are = no-bytes
probs-bytes (suc run) (p ∷ probs) are = probs-bytes run probs (All-tail (λ p. p < 2 ^ 22) p probs are)
probs-bytes zero (zero ∷ probs) are =
    let more = min 63 (zeros_before probs) in
    byte-then (4 * more + 3) (probs_bytes more probs) (omega arith) (probs-bytes more probs (All-tail (λ p. p < 2 ^ 22) zero probs are))
probs-bytes zero (suc p ∷ probs) are =
    joined (prob_bytes (suc p)) (probs_bytes 0 probs) (prob-bytes (suc p) (All-head (λ p. p < 2 ^ 22) (suc p) probs are))
    (probs-bytes 0 probs (All-tail (λ p. p < 2 ^ 22) (suc p) probs are))

table-bytes : (probs : List ℕ) → AreProbs probs → AreBytes (table_bytes probs)
table-bytes probs are = joined (spelling 5 (length probs)) (probs_bytes 0 probs) (spelled 5 (length probs)) (probs-bytes 0 probs are)

-- the part of a count that is no greater than all counts together
share-few : (others all count : ℕ) → count ≤ all → share_of others all count ≤ 1 + others
share-few others all count low =
    let product : count * others ≤ all * others = mul-le count others all others low (omega arith) in
    let part : count * others / all ≤ others = div-le_of_le-mul all product in
    elim (cases_Bool (nat_lt 0 count)) [
      | inl t ↦ rw (cond-true _ _ _ t) (omega (arith, part))
      | inr f ↦ rw (cond-false _ _ _ f) (omega arith)
    ]

-- the probabilities for counts are no more than all slots and one
shares-few : (counts : List ℕ) (total : ℕ) → All (λ p. p ≤ 1 + total) (shares counts total)
shares-few counts total =
    All-map (λ p. p ≤ 1 + total) (share_of (total - used_of counts) (sum counts)) counts
    (λ k d below.
    let count = get_or counts k d in
    let low : count ≤ sum counts = get_or-le-sum_by (λ x. x) counts k d below in
    let few = share-few (total - used_of counts) (sum counts) count low in
    omega (arith, few))

normal-few : (counts : List ℕ) (bits : ℕ) → bits ≤ 20 → AreProbs (normal counts bits)
unfolding normal
normal-few counts bits high =
    let total = 2 ^ bits in
    let room : total ≤ 2 ^ 20 = pow_mono {i = bits} {j = 20} high in
    let given = shares counts total in
    let m = most_frequent counts in
    let few = shares-few counts total in
    let most : get_or given m 0 ≤ 1 + total = elim (cases_lt m (length given)) [
      | inl inside ↦ few m 0 inside
      | inr past ↦ (let e = get_or_past given m 0 past in omega (arith, e))
    ] in
    All-set (λ p. p < 2 ^ 22) given m (get_or given m 0 + (total - sum given)) (omega (arith, most, room))
    (λ k d below. let p = few k d below in omega (arith, p, room))

-- ---- blocks of symbols

coded-bytes : (bits : ℕ) (probs symbols : List ℕ) → AreBytes (coded_bytes bits probs symbols)
unfolding coded_bytes
coded-bytes bits probs symbols =
    let coded = all_spelled 4 (2 ^ bits) (map (interval_of probs) symbols) in
    joined (spelling 10 (length coded)) coded (spelled 10 (length coded)) (all_spelled-bytes 4 (2 ^ bits) (map (interval_of probs) symbols))

precise : (length : ℕ) → precision length ≤ 20
precise length = omega arith

raw-bytes : (values : List ℕ) → AreBytes (raw_bytes values)
unfolding raw_bytes
raw-bytes values =
    let long = raw_length (counts_of values) in
    let probs = normal (counts_of values) (precision long) in
    let table = table-bytes probs (normal-few (counts_of values) (precision long) (precise long)) in
    byte-then 1 (long ∷ table_bytes probs ++ coded_bytes (precision long) probs values) (omega arith)
    (byte-then long (table_bytes probs ++ coded_bytes (precision long) probs values) (omega arith)
    (joined (table_bytes probs) (coded_bytes (precision long) probs values) table (coded-bytes (precision long) probs values)))

values-bits : (ws vs : List ℕ) → AreBits (value_bits ws vs)
values-bits [] vs = tt
values-bits (w ∷ ws) [] = tt
values-bits (w ∷ ws) (v ∷ vs) = AreBits-append (low_bits w v) (value_bits ws vs) (AreBits-low_bits w v) (values-bits ws vs)

tagged-bytes : (values : List ℕ) (comps : ℕ) → AreBytes (tagged_bytes values comps)
unfolding tagged_bytes
tagged-bytes values comps =
    let lengths = lengths_of comps values in
    let probs = normal (counts_of lengths) (precision 5) in
    let bits = value_bits (widths comps lengths) values in
    let table = table-bytes probs (normal-few (counts_of lengths) (precision 5) (precise 5)) in
    let coded = coded_bytes (precision 5) probs lengths in
    joined (0 ∷ table_bytes probs ++ coded) (packed bits)
    (byte-then 0 (table_bytes probs ++ coded) (omega arith) (joined (table_bytes probs) coded table (coded-bytes (precision 5) probs lengths)))
    (packed-bytes bits (values-bits (widths comps lengths) values))

pub symbols-bytes : (values : List ℕ) (comps : ℕ) → AreBytes (block_bytes values comps)
unfolding block_bytes
symbols-bytes values comps = elim (cases_Bool (length values == 0)) [
  | inl t ↦ rw (cond-true _ _ _ t) no-bytes
  | inr f ↦ rw (cond-false _ _ _ f) (elim (cases_Bool (is_raw values comps)) [
    | inl t ↦ rw (cond-true _ _ _ t) (raw-bytes values)
    | inr f ↦ rw (cond-false _ _ _ f) (tagged-bytes values comps)
  ])
]
