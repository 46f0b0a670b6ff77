-- The tables of symbols and of bit lengths, and the choice of a scheme.
use Rattle.std.proofs.Common.{◌≡◌, ℕ, ◌+◌, ◌*◌, ◌/◌, ◌%◌, ◌^◌, ◌<◌, ◌≤◌, nat_lt, nat_le, Bool, true, false, ◌&&◌, List, length, get_or, sym, refl, ap, ◌∙◌, subst, inl, inr, arith, lt-ltb, le-ltb, le-leb}
use Rattle.std.proofs.lemmas.Bool.{cases_lt, lt-leb}
use Rattle.std.proofs.Math.Nat.{div-le_self}
use Rattle.std.proofs.lemmas.List.{get_or_past}
use Rattle.drc_base.specs.declared.limits.TheConstants.{MAX_VALUES}
use Rattle.symbol_tables.specs.Normal.{HasTable, greatest_count, used_of}
use Rattle.symbol_coding.specs.Symbols.{counts_of}
use Rattle.symbol_coding.specs.Block.{is_raw, lengths_of, precision, raw_cost, raw_length, tagged_cost}
use Rattle.symbol_coding.proofs.Precisions.{enough}
use Rattle.symbol_coding.proofs.Counts.{counts_of-length, counts_of-positive, greatest-below, has-table, used-few}
use Rattle.symbol_coding.proofs.Widths.{length-lengths_of, lengths_of-most, whole-groups}

pub positive-below : (xs : List ℕ) (s : ℕ) → 0 < get_or xs s 0 → s < length xs
positive-below xs s h = elim (cases_lt s (length xs)) [ inl below ↦ below | inr past ↦ absurd (let e = get_or_past xs s 0 past in omega (arith, e, h)) ]

-- ---- symbols

pub counts-few : (values counts : List ℕ) → counts ≡ counts_of values → greatest_count values < 2 ^ 18 → length counts ≤ 2 ^ 18
counts-few values counts is small = let l : length counts ≡ greatest_count values + 1 = ap length is ∙ counts_of-length values in omega (arith, l, small)

pub raw-table : (values counts : List ℕ) (length' bits : ℕ) → counts ≡ counts_of values → 0 < length values → length values ≤ MAX_VALUES → greatest_count values < 2 ^ 18
    → length' ≡ raw_length counts → bits ≡ precision length' → HasTable counts bits
raw-table values counts length' bits is some few small long wide =
    let used : used_of counts ≤ greatest_count values + 1 = subst (λ xs. used_of xs ≤ greatest_count values + 1) (sym is) (used-few values) in
    let room : used_of counts ≤ 2 ^ bits = subst (λ n. used_of counts ≤ 2 ^ n) (sym wide) (enough (used_of counts) length' (omega (arith, used, small)) long) in
    subst (λ xs. HasTable xs bits) (sym is) (has-table values bits some (omega (arith, few)) (omega (arith, small)) (subst (λ xs. used_of xs ≤ 2 ^ bits) is room))

pub used-positive : (symbols counts probs : List ℕ) → counts ≡ counts_of symbols → ((s : ℕ) → 0 < get_or counts s 0 → 0 < get_or probs s 0)
    → (k : ℕ) → k < length symbols → 0 < get_or probs (get_or symbols k 0) 0
used-positive symbols counts probs is used k h = used (get_or symbols k 0) (subst (λ xs. 0 < get_or xs (get_or symbols k 0) 0) (sym is) (counts_of-positive symbols k h))

-- ---- groups

pub lengths-few : (values lengths : List ℕ) (comps : ℕ) → lengths ≡ lengths_of comps values → length values ≤ MAX_VALUES → length lengths ≤ MAX_VALUES
lengths-few values lengths comps is few =
    let l : length lengths ≡ length values / comps = ap length is ∙ length-lengths_of values comps in
    let d = div-le_self (length values) comps in omega (arith, l, d, few)

pub lengths-some : (values lengths : List ℕ) (comps : ℕ) → lengths ≡ lengths_of comps values → length values % comps ≡ 0 → 0 < length values → 0 < length lengths
lengths-some values lengths comps is divides some =
    let l : length lengths ≡ length values / comps = ap length is ∙ length-lengths_of values comps in
    let w = whole-groups (length values) comps divides in
    elim (cases_lt 0 (length lengths)) [
      | inl more ↦ more
      | inr none ↦ absurd (let z : length values / comps ≡ 0 = omega (arith, l, none) in let e : length values ≡ 0 * comps = w ∙ ap (λ n. n * comps) z in omega (arith, e, some))
    ]

pub lengths-whole : (values lengths : List ℕ) (comps : ℕ) → lengths ≡ lengths_of comps values → length values % comps ≡ 0 → length lengths * comps ≡ length values
lengths-whole values lengths comps is divides = ap (λ n. n * comps) (ap length is ∙ length-lengths_of values comps) ∙ sym (whole-groups (length values) comps divides)

pub lengths-most : (values lengths : List ℕ) (comps : ℕ) → lengths ≡ lengths_of comps values → ((k : ℕ) → get_or values k 0 < 2 ^ 32) → (k : ℕ) → get_or lengths k 0 ≤ 32
lengths-most values lengths comps is each k = subst (λ xs. get_or xs k 0 ≤ 32) (sym is) (lengths_of-most values comps each k)

pub tagged-table : (values lengths counts : List ℕ) (comps bits : ℕ) → lengths ≡ lengths_of comps values → counts ≡ counts_of lengths → bits ≡ precision 5 → length values % comps ≡ 0
    → 0 < length values → length values ≤ MAX_VALUES → ((k : ℕ) → get_or values k 0 < 2 ^ 32) → HasTable counts bits
tagged-table values lengths counts comps bits is counted wide divides some few each =
    let small : greatest_count lengths < 33 = greatest-below lengths 33 (omega arith) (λ k. let h = lengths-most values lengths comps is each k in omega (arith, h)) in
    let used = used-few lengths in
    let short = lengths-few values lengths comps is few in
    let room : used_of (counts_of lengths) ≤ 2 ^ bits = subst (λ n. used_of (counts_of lengths) ≤ 2 ^ n) (sym wide) (omega (arith, used, small)) in
    subst (λ xs. HasTable xs bits) (sym counted) (has-table lengths bits (lengths-some values lengths comps is divides some) (omega (arith, short)) (omega (arith, small)) room)

-- ---- the choice

and-false : (b : Bool) → (b && false) ≡ false
and-false true = refl
and-false false = refl

pub not-raw-large : (values : List ℕ) (comps : ℕ) → 2 ^ 18 ≤ greatest_count values → is_raw values comps ≡ false
unfolding is_raw
not-raw-large values comps large = ap (λ b. b && nat_le (raw_cost values) (tagged_cost values comps)) (le-ltb (greatest_count values) (2 ^ 18) large)

pub not-raw-costly : (values : List ℕ) (comps : ℕ) → tagged_cost values comps < raw_cost values → is_raw values comps ≡ false
unfolding is_raw
not-raw-costly values comps costly =
    ap (λ b. nat_lt (greatest_count values) (2 ^ 18) && b) (lt-leb (raw_cost values) (tagged_cost values comps) costly) ∙ and-false (nat_lt (greatest_count values) (2 ^ 18))

pub is-raw : (values : List ℕ) (comps : ℕ) → greatest_count values < 2 ^ 18 → raw_cost values ≤ tagged_cost values comps → is_raw values comps ≡ true
unfolding is_raw
is-raw values comps small cheap =
    ap (λ b. b && nat_le (raw_cost values) (tagged_cost values comps)) (lt-ltb (greatest_count values) (2 ^ 18) small) ∙ le-leb (raw_cost values) (tagged_cost values comps) cheap
