-- The first number that fails a test: where there is none, and what is known of one.
use Rattle.std.proofs.Common.{◌≡◌, ℕ, ◌<◌, Bool, true, false, not, ltb, length, get_or, Option, Some, None, ap, sym, ◌∙◌, zero-add, inl, inr, arith}
use Rattle.std.specs.List.{range_with_len, position_or_len}
use Rattle.std.proofs.lemmas.Bool.{cases_lt, cond-true, cond-false, lt-ltb, le-ltb, not-true, not-false, not_from_false, not_from_true}
use Rattle.std.proofs.lemmas.List.FromFn.{length-range_with_len, get_or-range_with_len}
use Rattle.std.proofs.lemmas.List.Sums.{fails_before_first, passes_at_first}
use Rattle.mesh_model.proofs.Places.{position-none, position-at, position-none_back}
use Rattle.drc_verify.specs.Firsts.{first_failing}

at_number : (passes : ℕ → Bool) (count i : ℕ) → i < count → not (passes (get_or (range_with_len 0 count) i 0)) ≡ not (passes i)
at_number passes count i below = ap (λ k. not (passes k)) (get_or-range_with_len 0 count i 0 below ∙ zero-add i)

-- where there is none, all are passes
pub first_failing-none : (passes : ℕ → Bool) (count : ℕ) → first_failing passes count ≡ None → (i : ℕ) → i < count → passes i ≡ true
unfolding first_failing
first_failing-none passes count none i below =
    not-false (passes i) (sym (at_number passes count i below)
    ∙ position-none_back (λ k. not (passes k)) (range_with_len 0 count) none i 0 (omega (arith, length-range_with_len 0 count)))

pub first_failing-all : (passes : ℕ → Bool) (count : ℕ) → ((i : ℕ) → i < count → passes i ≡ true) → first_failing passes count ≡ None
unfolding first_failing
first_failing-all passes count all =
    position-none (λ k. not (passes k)) (range_with_len 0 count) 0 (λ i below.
    let inside : i < count = omega (arith, length-range_with_len 0 count) in
    at_number passes count i inside ∙ not_from_true (passes i) (all i inside))

pub first_failing-at : (passes : ℕ → Bool) (count i : ℕ) → i < count → ((j : ℕ) → j < i → passes j ≡ true) → passes i ≡ false
    → first_failing passes count ≡ Some i
unfolding first_failing
first_failing-at passes count i below before here =
    position-at (λ k. not (passes k)) (range_with_len 0 count) i 0 (omega (arith, length-range_with_len 0 count))
    (λ j early. at_number passes count j (omega arith) ∙ not_from_true (passes j) (before j early))
    (at_number passes count i below ∙ not_from_false (passes i) here)

some_is : (a b : ℕ) → Some a ≡ Some b → a ≡ b
some_is a b e = cc

-- one that is found is below the count, it isn't passes, and all before it are
pub first_failing-found : (passes : ℕ → Bool) (count i : ℕ) → first_failing passes count ≡ Some i
    → (i < count) × (passes i ≡ false) × ((j : ℕ) → j < i → passes j ≡ true)
unfolding first_failing
first_failing-found passes count i found =
    let test : ℕ → Bool = λ k. not (passes k) in
    let list = range_with_len 0 count in
    let first = position_or_len test list in
    elim (cases_lt first (length list)) [
      | inl below ↦
          let is : first ≡ i = some_is first i (sym (cond-true (ltb first (length list)) (Some first) None (lt-ltb first (length list) below)) ∙ found) in
          let inside : i < count = omega (arith, is, length-range_with_len 0 count) in (
            inside,
            not-true (passes i) (sym (at_number passes count i inside) ∙ ap (λ k. test (get_or list k 0)) (sym is) ∙ passes_at_first test list 0 below),
            λ j before.
                not-false (passes j) (sym (at_number passes count j (omega arith)) ∙ fails_before_first test list j 0 (omega (arith, is))),
          )
      | inr past ↦
          let none : ◌≡◌ {A = Option ℕ} None (Some i) = sym (cond-false (ltb first (length list)) (Some first) None (le-ltb first (length list) past)) ∙ found in
          absurd cc
    ]
