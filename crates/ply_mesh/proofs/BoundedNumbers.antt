-- Numbers within bounds, which all fit 64 bits.
use Rattle.std.proofs.Common.{◌≡◌, ℕ, ◌-◌, ◌^◌, Bool, true, false, cond, ℤ, pos, negsuc, neg_ℤ, ◌≤ℤ◌, int_le, FitsSigned, List, Option, Some, None, refl, sym, ap, ◌∙◌, inl, inr, arith}
use Rattle.std.specs.Int.{w32}
use Rattle.std.proofs.lemmas.Bool.{cases_Bool, and_parts, and_from}
use Rattle.std.proofs.lemmas.Int.{ints}
use Rattle.attr_heads.specs.declared.bounds.Bounds.{Bounds}
use Rattle.attr_heads.specs.Bounds.{in_bounds}
use Rattle.ply_text.specs.Numbers.{integer_of, only_if, is_between}
use Rattle.ply_mesh.specs.Body.{token_number}

-- a number within bounds of 32 bits has 64
wide : (b : Bounds) (v : ℤ) → FitsSigned w32 b.least → FitsSigned w32 b.greatest → in_bounds b v ≡ true → is_between (2 ^ 63) (2 ^ 63 - 1) v ≡ true
unfolding in_bounds
wide b v low high h =
    let p = and_parts (int_le b.least v) (int_le v b.greatest) h in
    let from : b.least ≤ℤ v = grind (arith, ints, p.0) in
    let to : v ≤ℤ b.greatest = grind (arith, ints, p.1) in
    let least : negsuc 2147483647 ≤ℤ b.least = search (arith, ints) in
    let greatest : b.greatest ≤ℤ pos 2147483647 = search (arith, ints) in
    let a : int_le (neg_ℤ (pos (2 ^ 63))) v ≡ true = grind (arith, ints, least, from) in
    let c : int_le v (pos (2 ^ 63 - 1)) ≡ true = grind (arith, ints, greatest, to) in
    and_from (int_le (neg_ℤ (pos (2 ^ 63))) v) (int_le v (pos (2 ^ 63 - 1))) a c

-- a number within the bounds
pub number_in : (b : Bounds) (token : List ℕ) (v : ℤ) → integer_of token ≡ Some v → in_bounds b v ≡ true → token_number b token ≡ Some v
unfolding token_number
number_in b token v e h = ap (only_if (in_bounds b)) e ∙ ap (λ c. cond c (Some v) None) h

some_of : (test : ℤ → Bool) (o : Option ℤ) (v : ℤ) → only_if test o ≡ Some v → o ≡ Some v
some_of test None v e = absurd cc
some_of test (Some w) v e = elim (cases_Bool (test w)) [
  | inl t ↦ sym (ap (λ b. cond b (Some w) None) t) ∙ e
  | inr f ↦ let n : None ≡ Some v = sym (ap (λ b. cond b (Some w) None) f) ∙ e in absurd cc
]

-- a token that is no number of 64 bits is none within the bounds
none_of : (b : Bounds) (o : Option ℤ) → FitsSigned w32 b.least → FitsSigned w32 b.greatest → only_if (is_between (2 ^ 63) (2 ^ 63 - 1)) o ≡ None → only_if (in_bounds b) o ≡ None
none_of b None low high e = refl
none_of b (Some v) low high e = elim (cases_Bool (in_bounds b v)) [
  | inl t ↦ let n : Some v ≡ None = sym (ap (λ c. cond c (Some v) None) (wide b v low high t)) ∙ e in absurd cc
  | inr f ↦ ap (λ c. cond c (Some v) None) f
]

pub bounded_none : (b : Bounds) (token : List ℕ) → FitsSigned w32 b.least → FitsSigned w32 b.greatest → only_if (is_between (2 ^ 63) (2 ^ 63 - 1)) (integer_of token) ≡ None → token_number b token ≡ None
unfolding token_number
bounded_none b token low high e = none_of b (integer_of token) low high e

pub bounded_some : (b : Bounds) (token : List ℕ) (v : ℤ) → only_if (is_between (2 ^ 63) (2 ^ 63 - 1)) (integer_of token) ≡ Some v → in_bounds b v ≡ true → token_number b token ≡ Some v
bounded_some b token v e h = number_in b token v (some_of (is_between (2 ^ 63) (2 ^ 63 - 1)) (integer_of token) v e) h

pub bounded_out : (b : Bounds) (token : List ℕ) (v : ℤ) → only_if (is_between (2 ^ 63) (2 ^ 63 - 1)) (integer_of token) ≡ Some v → in_bounds b v ≡ false → token_number b token ≡ None
unfolding token_number
bounded_out b token v e h = ap (only_if (in_bounds b)) (some_of (is_between (2 ^ 63) (2 ^ 63 - 1)) (integer_of token) v e) ∙ ap (λ c. cond c (Some v) None) h
