-- How many bits a box writes.
use Rattle.std.proofs.Common.{◌≡◌, ℕ, zero, suc, ◌+◌, ◌-◌, ◌*◌, ◌/◌, ◌≤◌, List, [], ◌∷◌, ◌++◌, length, sym, refl, ap, ◌∙◌, subst, inl, inr, arith, length-append, lt-ltb, le-ltb}
use Rattle.std.specs.Prelude.{All}
use Rattle.std.proofs.lemmas.Bool.{cases_lt, cond-true, cond-false}
use Rattle.std.proofs.lemmas.List.{length-drop}
use Rattle.std.proofs.lemmas.List.Elements.{All-filter}
use Rattle.kd_tree.specs.Keys.{Key, bit_at, is_low}
use Rattle.drc_bits.specs.Digits.{digits, digits_in}
use Rattle.kd_tree.specs.Trees.{high_bits, lower, upper, split_bits, rest_bits, split_count, rest_count}
use Rattle.kd_tree.proofs.Bits.{length-high_bits}
use Rattle.drc_bits.proofs.Digits.{nothing, step}
use Rattle.kd_tree.proofs.Boxes.{length-parts, rest-last, rest-more, rest-none, rest-one, split-last, split-more, split-none}

-- a number has no more digits than it counts
pub digits-few : (most v : ℕ) → digits_in most v ≤ v
unfolding digits_in
digits-few zero v = omega arith
digits-few (suc most) v = elim (cases_lt 0 v) [
  | inl some ↦ (let rest = digits-few most (v / 2) in let e = step most v some in omega (arith, rest, e))
  | inr low ↦ (let z : v ≡ 0 = omega arith in let e : digits_in (suc most) v ≡ 0 = ap (digits_in (suc most)) z ∙ nothing (suc most) in omega (arith, e))
]

-- keys of one length
abbrev pub AreLong : ℕ → List Key → Type 0
AreLong n box = All (λ (key : Key). length key ≡ n) box

pub long-at : (n m : ℕ) (box : List Key) → n ≡ m → AreLong n box → AreLong m box
long-at n m box e all = subst (λ k. AreLong k box) e all

pub long-lower : (left d : ℕ) (box : List Key) → AreLong (d + suc left) box → AreLong (d + 1 + left) (lower d box)
long-lower left d box all = All-filter (is_low d) (λ (key : Key). length key ≡ d + 1 + left) box (long-at (d + suc left) (d + 1 + left) box (omega arith) all)

pub long-upper : (left d : ℕ) (box : List Key) → AreLong (d + suc left) box → AreLong (d + 1 + left) (upper d box)
long-upper left d box all = All-filter (bit_at d) (λ (key : Key). length key ≡ d + 1 + left) box (long-at (d + suc left) (d + 1 + left) box (omega arith) all)

pub split-few : (left d : ℕ) (box : List Key) → length (split_bits left d box) ≤ length box * left
split-few zero d box = let e = ap length (split-last d box) in omega (arith, e)
split-few (suc left) d box = elim (cases_lt (length box) 2) [
  | inl few ↦ (let e = ap length (split-none (suc left) d box few) in omega (arith, e))
  | inr more ↦
      let a : ℕ = length (lower d box) in
      let b : ℕ = length (upper d box) in
      let all : a + b ≡ length box = length-parts d box in
      let low : length (split_bits left (d + 1) (lower d box)) ≤ a * left = split-few left (d + 1) (lower d box) in
      let high : length (split_bits left (d + 1) (upper d box)) ≤ b * left = split-few left (d + 1) (upper d box) in
      let own : digits (length box) ≤ length box = digits-few 32 (length box) in
      let whole : length (split_bits (suc left) d box) ≡ digits (length box) + (length (split_bits left (d + 1) (lower d box)) + length (split_bits left (d + 1) (upper d box))) =
      ap length (split-more left d box more)
      ∙ length-append (high_bits (digits (length box)) (length (lower d box))) (split_bits left (d + 1) (lower d box) ++ split_bits left (d + 1) (upper d box))
      ∙ ap (λ n. n + length (split_bits left (d + 1) (lower d box) ++ split_bits left (d + 1) (upper d box))) (length-high_bits (digits (length box)) (length (lower d box)))
      ∙ ap (λ n. digits (length box) + n) (length-append (split_bits left (d + 1) (lower d box)) (split_bits left (d + 1) (upper d box))) in
      let sum : length box * suc left ≡ length box + (a * left + b * left) = ap (λ n. n * suc left) (sym all) ∙ (let e : (a + b) * suc left ≡ a + b + (a * left + b * left) = omega arith in e) ∙ ap (λ n. n + (a * left + b * left)) all in
      omega (arith, whole, sum, own, low, high)
]

pub rest-few : (left d : ℕ) (box : List Key) → AreLong (d + left) box → length (rest_bits left d box) ≤ length box * left
rest-few zero d box all = let e = ap length (rest-last d box) in omega (arith, e)
rest-few (suc left) d [] all = let e = ap length (rest-none (suc left) d [] refl) in omega (arith, e)
rest-few (suc left) d (key ∷ []) all =
    let e : length (rest_bits (suc left) d (key ∷ [])) ≡ length key - d = ap length (rest-one left d (key ∷ []) refl) ∙ length-drop d key in
    let long : length key ≡ d + suc left = all 0 [] (omega arith) in
    let one : length (key ∷ []) * suc left ≡ suc left = omega arith in
    omega (arith, e, long, one)
rest-few (suc left) d (key ∷ other ∷ keys) all =
    let box : List Key = key ∷ other ∷ keys in
    let a : ℕ = length (lower d box) in
    let b : ℕ = length (upper d box) in
    let both : a + b ≡ length box = length-parts d box in
    let low : length (rest_bits left (d + 1) (lower d box)) ≤ a * left = rest-few left (d + 1) (lower d box) (long-lower left d box all) in
    let high : length (rest_bits left (d + 1) (upper d box)) ≤ b * left = rest-few left (d + 1) (upper d box) (long-upper left d box all) in
    let whole : length (rest_bits (suc left) d box) ≡ length (rest_bits left (d + 1) (lower d box)) + length (rest_bits left (d + 1) (upper d box)) =
    ap length (rest-more left d box (omega arith)) ∙ length-append (rest_bits left (d + 1) (lower d box)) (rest_bits left (d + 1) (upper d box)) in
    let sum : length box * suc left ≡ length box + (a * left + b * left) = ap (λ n. n * suc left) (sym both) ∙ (let e : (a + b) * suc left ≡ a + b + (a * left + b * left) = omega arith in e) ∙ ap (λ n. n + (a * left + b * left)) both in
    omega (arith, whole, sum, low, high)

pub split-counted : (left d : ℕ) (box : List Key) → length (split_bits left d box) ≡ split_count left d box
unfolding split_count
split-counted zero d box = ap length (split-last d box)
split-counted (suc left) d box = elim (cases_lt (length box) 2) [
  | inl few ↦ ap length (split-none (suc left) d box few) ∙ sym (cond-true _ _ _ (lt-ltb (length box) 2 few))
  | inr more ↦
      ap length (split-more left d box more)
      ∙ length-append (high_bits (digits (length box)) (length (lower d box))) (split_bits left (d + 1) (lower d box) ++ split_bits left (d + 1) (upper d box))
      ∙ ap (λ n. n + length (split_bits left (d + 1) (lower d box) ++ split_bits left (d + 1) (upper d box))) (length-high_bits (digits (length box)) (length (lower d box)))
      ∙ ap (λ n. digits (length box) + n) (length-append (split_bits left (d + 1) (lower d box)) (split_bits left (d + 1) (upper d box))
      ∙ ap (λ n. n + length (split_bits left (d + 1) (upper d box))) (split-counted left (d + 1) (lower d box))
      ∙ ap (λ n. split_count left (d + 1) (lower d box) + n) (split-counted left (d + 1) (upper d box)))
      ∙ sym (cond-false _ _ _ (le-ltb (length box) 2 more))
]

pub rest-counted : (left d : ℕ) (box : List Key) → AreLong (d + left) box → length (rest_bits left d box) ≡ rest_count left d box
unfolding rest_count rest_bits
rest-counted zero d box all = refl
rest-counted (suc left) d [] all = refl
rest-counted (suc left) d (key ∷ []) all = length-drop d key ∙ (let long : length key ≡ d + suc left = all 0 [] (omega arith) in let e : length key - d ≡ suc left = omega (arith, long) in e)
rest-counted (suc left) d (key ∷ other ∷ keys) all =
    let box : List Key = key ∷ other ∷ keys in
    length-append (rest_bits left (d + 1) (lower d box)) (rest_bits left (d + 1) (upper d box))
    ∙ ap (λ n. n + length (rest_bits left (d + 1) (upper d box))) (rest-counted left (d + 1) (lower d box) (long-lower left d box all))
    ∙ ap (λ n. rest_count left (d + 1) (lower d box) + n) (rest-counted left (d + 1) (upper d box) (long-upper left d box all))
