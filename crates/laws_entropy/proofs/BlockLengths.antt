-- How many bytes tables and symbol blocks take at most.
use Rattle.std.proofs.Common.{◌≡◌, ℕ, zero, suc, ◌+◌, ◌*◌, ◌/◌, ◌%◌, ◌^◌, ◌<◌, ◌≤◌, nat_lt, min, List, [], ◌∷◌, ◌++◌, map, length, sum, get_or, refl, ap, ◌∙◌, inl, inr, arith, length-append}
use Rattle.std.proofs.lemmas.Bool.{cases_Bool, cond-true, cond-false}
use Rattle.std.proofs.lemmas.List.{length-map}
use Rattle.drc_base.specs.declared.limits.TheConstants.{MAX_VALUES}
use Rattle.drc_bits.specs.Bits.{bytes_for, packed}
use Rattle.drc_bits.specs.Varint.{spelling}
use Rattle.drc_bits.proofs.PackedBits.{length-packed}
use Rattle.rans_core.specs.Coder.{all_spelled}
use Rattle.symbol_tables.specs.Tables.{prob_bytes, probs_bytes, table_bytes, zeros_before}
use Rattle.symbol_tables.specs.Normal.{greatest_count, normal}
use Rattle.symbol_tables.proofs.Symbols.{sum-cons}
use Rattle.symbol_tables.proofs.Sharing.{normal-length}
use Rattle.symbol_coding.specs.Symbols.{coded_bytes, counts_of, interval_of}
use Rattle.symbol_coding.specs.Block.{HasWidths, lengths_of, precision, raw_bytes, raw_length, tagged_bytes, value_bits, widths}
use Rattle.symbol_coding.proofs.Counts.{counts_of-length, greatest-below}
use Rattle.symbol_coding.proofs.Tables.{lengths-few, lengths-most}
use Rattle.symbol_coding.proofs.Widths.{length-value_bits, widths-fit}
use Rattle.laws_entropy.proofs.CodedLengths.{all_spelled-most}

pub length-spelling : (most v : ℕ) → length (spelling most v) ≤ most
unfolding spelling
length-spelling zero v = omega arith
length-spelling (suc most) v =
    elim (cases_Bool (nat_lt v 128)) [
      | inl e ↦ rw (cond-true _ _ _ e) (omega arith)
      | inr e ↦ rw (cond-false _ _ _ e) (let h = length-spelling most (v / 128) in omega (arith, h))
    ]

-- ---- tables

length-prob_bytes : (p : ℕ) → length (prob_bytes p) ≤ 3
unfolding prob_bytes
length-prob_bytes p =
    elim (cases_Bool (nat_lt p (2 ^ 6))) [
      | inl e ↦ rw (cond-true _ _ _ e) (omega arith)
      | inr e ↦ rw (cond-false _ _ _ e) (elim (cases_Bool (nat_lt p (2 ^ 14))) [
        | inl e ↦ rw (cond-true _ _ _ e) (omega arith)
        | inr e ↦ rw (cond-false _ _ _ e) (omega arith)
      ])
    ]

length-probs_bytes : (run : ℕ) (probs : List ℕ) → length (probs_bytes run probs) ≤ 3 * length probs
unfolding probs_bytes
length-probs_bytes run [] = omega arith
length-probs_bytes (suc run) (p ∷ probs) = let h = length-probs_bytes run probs in omega (arith, h)
length-probs_bytes zero (zero ∷ probs) = let h = length-probs_bytes (min 63 (zeros_before probs)) probs in omega (arith, h)
length-probs_bytes zero (suc p ∷ probs) =
    let a = length-append (prob_bytes (suc p)) (probs_bytes 0 probs) in
    let l = length-prob_bytes (suc p) in
    let h = length-probs_bytes 0 probs in omega (arith, a, l, h)

pub length-table_bytes : (probs : List ℕ) → length (table_bytes probs) ≤ 5 + 3 * length probs
length-table_bytes probs =
    let a = length-append (spelling 5 (length probs)) (probs_bytes 0 probs) in
    let s = length-spelling 5 (length probs) in
    let h = length-probs_bytes 0 probs in omega (arith, a, s, h)

-- ---- symbols

pub length-coded_bytes : (bits : ℕ) (probs symbols : List ℕ) → length (coded_bytes bits probs symbols) ≤ 14 + 4 * length symbols
unfolding coded_bytes
length-coded_bytes bits probs symbols =
    let coded : List ℕ = all_spelled 4 (2 ^ bits) (map (interval_of probs) symbols) in
    let a = length-append (spelling 10 (length coded)) coded in
    let s = length-spelling 10 (length coded) in
    let c = all_spelled-most 4 (2 ^ bits) (map (interval_of probs) symbols) in
    let l = length-map symbols (interval_of probs) in omega (arith, a, s, c, l)

-- a block whose values are symbols
pub length-raw_bytes : (values : List ℕ) → greatest_count values < 2 ^ 18 → length (raw_bytes values) ≤ 4 * length values + 1048576
unfolding raw_bytes
length-raw_bytes values small =
    let counts : List ℕ = counts_of values in
    let bits : ℕ = precision (raw_length counts) in
    let probs : List ℕ = normal counts bits in
    let a = length-append (table_bytes probs) (coded_bytes bits probs values) in
    let t = length-table_bytes probs in
    let c = length-coded_bytes bits probs values in
    let n : length probs ≡ length counts = normal-length counts bits in
    let k : length counts ≡ greatest_count values + 1 = counts_of-length values in
    omega (arith, a, t, c, n, k, small)

-- ---- groups

-- the widths of so many values are at most 32 each
widths-most : (ws vs : List ℕ) → HasWidths ws vs → sum ws ≤ 32 * length vs
widths-most [] [] fit = omega arith
widths-most [] (v ∷ vs) fit = absurd fit
widths-most (w ∷ ws) [] fit = absurd fit
widths-most (w ∷ ws) (v ∷ vs) fit =
    let s = sum-cons w ws in
    let r = widths-most ws vs fit.2 in omega (arith, s, r, fit.0)

-- a block of groups
pub length-tagged_bytes : (values : List ℕ) (comps : ℕ) → length values % comps ≡ 0 → length values ≤ MAX_VALUES → ((k : ℕ) → get_or values k 0 < 2 ^ 32)
    → length (tagged_bytes values comps) ≤ 8 * MAX_VALUES + 1024
unfolding tagged_bytes
length-tagged_bytes values comps divides few each =
    let lengths : List ℕ = lengths_of comps values in
    let counts : List ℕ = counts_of lengths in
    let bits : ℕ = precision 5 in
    let probs : List ℕ = normal counts bits in
    let ws : List ℕ = widths comps lengths in
    let put : List ℕ = value_bits ws values in
    let fit : HasWidths ws values = widths-fit values comps divides each in
    let a = length-append (table_bytes probs) (coded_bytes bits probs lengths) in
    let d = length-append (0 ∷ table_bytes probs ++ coded_bytes bits probs lengths) (packed put) in
    let t = length-table_bytes probs in
    let c = length-coded_bytes bits probs lengths in
    let n : length probs ≡ length counts = normal-length counts bits in
    let k : length counts ≡ greatest_count lengths + 1 = counts_of-length lengths in
    let small : greatest_count lengths < 33 = greatest-below lengths 33 (omega arith) (λ i. let h = lengths-most values lengths comps refl each i in omega (arith, h)) in
    let short : length lengths ≤ MAX_VALUES = lengths-few values lengths comps refl few in
    let p : length (packed put) ≡ bytes_for (sum ws) = length-packed put ∙ ap bytes_for (length-value_bits ws values fit) in
    let s = widths-most ws values fit in
    omega (arith, a, d, t, c, n, k, small, short, p, s, few)
