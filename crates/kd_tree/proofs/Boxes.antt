-- Boxes and their two parts.
use Rattle.std.proofs.Common.{◌≡◌, ℕ, zero, suc, ◌+◌, ◌-◌, ◌<◌, ◌≤◌, Bool, true, false, not, List, [], ◌∷◌, ◌++◌, length, drop, sym, refl, ap, ◌∙◌, inl, inr, arith, lt-ltb, le-ltb}
use Rattle.std.proofs.lemmas.Bool.{cases_lt, cond-true, cond-false, false≢true}
use Rattle.std.proofs.lemmas.List.{get_or_append_left, get_or-append_right, get_or-take, get_or-drop, length-take-le, length-drop}
use Rattle.std.proofs.lemmas.List.Filters.{length-filter_both}
use Rattle.std.proofs.lemmas.List.Elements.{filter_passes}
use Rattle.kd_tree.specs.Keys.{Key, bit_at, is_low, key_at}
use Rattle.drc_bits.specs.Digits.{digits}
use Rattle.kd_tree.specs.Trees.{high_bits, lower, upper, split_bits, rest_bits}
use Rattle.kd_tree.specs.Walk.{part}

-- each key of a box is in one of its parts
pub length-parts : (d : ℕ) (box : List Key) → length (lower d box) + length (upper d box) ≡ length box
length-parts d box = length-filter_both (is_low d) (bit_at d) (λ key. sym (not-not (bit_at d key))) box where
  not-not : (b : Bool) → not (not b) ≡ b
  not-not true = refl
  not-not false = refl

-- where the lower box stands before the upper box, a key with 1 is none of its keys
pub high-at : (d : ℕ) (box : List Key) (k : ℕ) → box ≡ lower d box ++ upper d box → bit_at d (key_at box k) ≡ true → length (lower d box) ≤ k
high-at d box k parted is = elim (cases_lt k (length (lower d box))) [
  | inl low ↦
      let at : key_at box k ≡ key_at (lower d box) k = ap (λ xs. key_at xs k) parted ∙ get_or_append_left (lower d box) (upper d box) [] k low in
      let passes : is_low d (key_at (lower d box) k) ≡ true = filter_passes (is_low d) box k [] low in
      let not_low : is_low d (key_at (lower d box) k) ≡ false = ap (is_low d) (sym at) ∙ ap not is in
      absurd (false≢true (sym not_low ∙ passes))
  | inr high ↦ high
]

-- and a key with 0 is one of them
pub low-at : (d : ℕ) (box : List Key) (k : ℕ) → box ≡ lower d box ++ upper d box → k < length box → bit_at d (key_at box k) ≡ false → k < length (lower d box)
low-at d box k parted inside is = elim (cases_lt k (length (lower d box))) [
  | inl low ↦ low
  | inr high ↦
      let all = length-parts d box in
      let at : key_at box k ≡ key_at (upper d box) (k - length (lower d box)) = ap (λ xs. key_at xs k) parted ∙ get_or-append_right (lower d box) (upper d box) (length (lower d box)) k [] refl high in
      let passes : bit_at d (key_at (upper d box) (k - length (lower d box))) ≡ true = filter_passes (bit_at d) box (k - length (lower d box)) [] (omega (arith, all)) in
      absurd (false≢true (sym is ∙ ap (bit_at d) at ∙ passes))
]

pub length-part : (begin end : ℕ) (keys : List Key) → begin ≤ end → end ≤ length keys → length (part begin end keys) ≡ end - begin
length-part begin end keys h k = length-take-le (end - begin) (drop begin keys) (omega (arith, length-drop begin keys))

-- a key of a part
pub key-part : (begin end : ℕ) (keys : List Key) (k : ℕ) → begin ≤ k → k < end → key_at (part begin end keys) (k - begin) ≡ key_at keys k
key-part begin end keys k h l =
    get_or-take (end - begin) (drop begin keys) (k - begin) [] (omega arith) ∙ get_or-drop begin keys (k - begin) [] ∙ ap (key_at keys) (let e : begin + (k - begin) ≡ k = omega arith in e)

-- ---- what a box writes

pub split-none : (left d : ℕ) (box : List Key) → length box < 2 → split_bits left d box ≡ []
unfolding split_bits
split-none zero d box h = refl
split-none (suc left) d box h = cond-true _ _ _ (lt-ltb (length box) 2 h)

pub split-more : (left d : ℕ) (box : List Key) → 2 ≤ length box →
    split_bits (suc left) d box ≡ high_bits (digits (length box)) (length (lower d box)) ++ (split_bits left (d + 1) (lower d box) ++ split_bits left (d + 1) (upper d box))
unfolding split_bits
split-more left d box h = cond-false _ _ _ (le-ltb (length box) 2 h)

pub split-last : (d : ℕ) (box : List Key) → split_bits 0 d box ≡ []
unfolding split_bits
split-last d box = refl

pub rest-last : (d : ℕ) (box : List Key) → rest_bits 0 d box ≡ []
unfolding rest_bits
rest-last d box = refl

pub rest-none : (left d : ℕ) (box : List Key) → length box ≡ 0 → rest_bits left d box ≡ []
unfolding rest_bits
rest-none zero d box h = refl
rest-none (suc left) d [] h = refl
rest-none (suc left) d (key ∷ box) h = absurd (omega arith)

pub rest-one : (left d : ℕ) (box : List Key) → length box ≡ 1 → rest_bits (suc left) d box ≡ drop d (key_at box 0)
unfolding rest_bits
rest-one left d [] h = absurd (omega arith)
rest-one left d (key ∷ []) h = refl
rest-one left d (key ∷ other ∷ keys) h = absurd (omega arith)

pub rest-more : (left d : ℕ) (box : List Key) → 2 ≤ length box → rest_bits (suc left) d box ≡ rest_bits left (d + 1) (lower d box) ++ rest_bits left (d + 1) (upper d box)
unfolding rest_bits
rest-more left d [] h = absurd (omega arith)
rest-more left d (key ∷ []) h = absurd (omega arith)
rest-more left d (key ∷ other ∷ keys) h = refl
