-- All counts together are no more than the symbols.
use Rattle.std.proofs.Common.{◌≡◌, ℕ, zero, suc, ◌+◌, ◌≤◌, ◌==◌, nat_lt, Bool, cond, List, [], ◌∷◌, length, map, sum, count_by, ap, ◌∙◌, inl, inr, arith, eq-eqb, ne_eqb, lt-ltb, le-ltb}
use Rattle.std.proofs.lemmas.Bool.{cases_lt, cond-true, cond-false}
use Rattle.std.proofs.lemmas.List.Sums.{sum_by-cons, count_by-le-length}
use Rattle.std.proofs.lemmas.List.FromFn.{sum_by-map-range_with_len_more}
use Rattle.std.specs.List.{range_with_len}
use Rattle.symbol_tables.specs.Normal.{greatest_count}
use Rattle.symbol_coding.specs.Symbols.{counts_of}

-- what one symbol counts
abbrev if_so : Bool → ℕ
if_so b = cond b 1 0

-- how many symbols are below a number, and how many are it
below : ℕ → List ℕ → ℕ
below n symbols = count_by (λ v. nat_lt v n) symbols

same : ℕ → List ℕ → ℕ
same n symbols = count_by (λ v. v == n) symbols

below-next : (n : ℕ) (symbols : List ℕ) → below n symbols + same n symbols ≤ below (suc n) symbols
unfolding below same
below-next n [] = omega arith
below-next n (v ∷ vs) =
    let a = sum_by-cons (λ x. if_so (nat_lt x n)) v vs in
    let b = sum_by-cons (λ x. if_so (x == n)) v vs in
    let c = sum_by-cons (λ x. if_so (nat_lt x (suc n))) v vs in
    let rest = below-next n vs in
    elim (cases_lt v n) [
      | inl less ↦
          let d : if_so (nat_lt v n) ≡ 1 = cond-true _ _ _ (lt-ltb v n less) in
          let e : if_so (v == n) ≡ 0 = cond-false _ _ _ (ne_eqb v n (λ is. absurd (omega (arith, is, less)))) in
          let f : if_so (nat_lt v (suc n)) ≡ 1 = cond-true _ _ _ (lt-ltb v (suc n) (omega (arith, less))) in
          omega (arith, a, b, c, d, e, f, rest)
      | inr most ↦ elim (cases_lt n v) [
        | inl more ↦
            let d : if_so (nat_lt v n) ≡ 0 = cond-false _ _ _ (le-ltb v n most) in
            let e : if_so (v == n) ≡ 0 = cond-false _ _ _ (ne_eqb v n (λ is. absurd (omega (arith, is, more)))) in
            omega (arith, a, b, c, d, e, rest)
        | inr least ↦
            let d : if_so (nat_lt v n) ≡ 0 = cond-false _ _ _ (le-ltb v n most) in
            let e : if_so (v == n) ≡ 1 = cond-true _ _ _ (eq-eqb v n (omega (arith, most, least))) in
            let f : if_so (nat_lt v (suc n)) ≡ 1 = cond-true _ _ _ (lt-ltb v (suc n) (omega (arith, least))) in
            omega (arith, a, b, c, d, e, f, rest)
      ]
    ]

counted-below : (n : ℕ) (symbols : List ℕ) → sum (map (λ s. same s symbols) (range_with_len 0 n)) ≤ below n symbols
counted-below zero symbols = omega arith
counted-below (suc n) symbols =
    let e : suc n ≡ n + 1 = omega arith in
    let more : sum (map (λ s. same s symbols) (range_with_len 0 (suc n))) ≡ sum (map (λ s. same s symbols) (range_with_len 0 n)) + same n symbols =
    ap (λ k. sum (map (λ s. same s symbols) (range_with_len 0 k))) e ∙ sum_by-map-range_with_len_more (λ x. x) (λ s. same s symbols) 0 n n (omega arith) in
    let rest = counted-below n symbols in
    let next = below-next n symbols in omega (arith, more, rest, next)

pub counted-few : (symbols : List ℕ) → sum (counts_of symbols) ≤ length symbols
unfolding counts_of below same
counted-few symbols =
    let all : sum (map (λ s. same s symbols) (range_with_len 0 (greatest_count symbols + 1))) ≤ below (greatest_count symbols + 1) symbols = counted-below (greatest_count symbols + 1) symbols in
    let most : below (greatest_count symbols + 1) symbols ≤ length symbols = count_by-le-length (λ v. nat_lt v (greatest_count symbols + 1)) symbols in
    omega (arith, all, most)
