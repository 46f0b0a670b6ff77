-- How many faces are left out where there are holes.
use Rattle.std.proofs.Common.{◌≡◌, ℕ, zero, suc, ◌+◌, ◌*◌, ◌-◌, ◌/◌, ◌%◌, ◌<◌, ◌≤◌, inl, inr, Bool, true, false, cond, eqb, ltb, ◌&&◌, List, [], ◌∷◌, length, min, refl, sym, ap, ◌∙◌, add-mul, mul-add, zero-mul, arith}
use Rattle.std.specs.Prelude.{map}
use Rattle.std.specs.List.{flat_map, range_with_len, sum_by}
use Rattle.std.proofs.lemmas.Bool.{cases_lt, lt-ltb, le-ltb}
use Rattle.std.proofs.lemmas.List.{length-append}
use Rattle.std.proofs.lemmas.List.Sums.{sum_by-cons, sum_by-append}
use Rattle.drc_gen.specs.Lattice.{pairs, pair_number}
use Rattle.drc_gen.specs.Generated.{cell_faces, is_hole, faces_but_holes}
use Rattle.drc_gen.proofs.Walks.{length-pairs}

-- pieces of two where nothing is missing, and what is missing of them
two-each : {A B : Type 0} (f : A → List B) (missing : A → ℕ) → ((x : A) → length (f x) + 2 * missing x ≡ 2) → (xs : List A)
    → length (flat_map f xs) + 2 * sum_by missing xs ≡ 2 * length xs
two-each f missing each [] = omega arith
two-each f missing each (x ∷ xs) =
    omega (arith, length-append (f x) (flat_map f xs), sum_by-cons missing x xs, each x, two-each f missing each xs)

-- the sum of products over one row of pairs, and over all rows
row-sum : (u v : ℕ → ℕ) (j : ℕ) (is : List ℕ) → sum_by (λ (c : ℕ × ℕ). u c.0 * v c.1) (map (λ (i : ℕ). (i, j)) is) ≡ sum_by u is * v j
row-sum u v j [] = sym (zero-mul (v j))
row-sum u v j (i ∷ is) =
    omega (
      arith,
      sum_by-cons (λ (c : ℕ × ℕ). u c.0 * v c.1) (i, j) (map (λ (i : ℕ). (i, j)) is),
      sum_by-cons u i is,
      row-sum u v j is,
      ap (λ s. s * v j) (sum_by-cons u i is),
      add-mul (u i) (sum_by u is) (v j),
    )

rows-sum : (u v : ℕ → ℕ) (is js : List ℕ) → sum_by (λ (c : ℕ × ℕ). u c.0 * v c.1) (flat_map (λ j. map (λ (i : ℕ). (i, j)) is) js) ≡ sum_by u is * sum_by v js
rows-sum u v is [] = omega arith
rows-sum u v is (j ∷ js) =
    sum_by-append (λ (c : ℕ × ℕ). u c.0 * v c.1) (map (λ (i : ℕ). (i, j)) is) (flat_map (λ j. map (λ (i : ℕ). (i, j)) is) js)
    ∙ omega (arith, row-sum u v j is, rows-sum u v is js, mul-add (sum_by u is) (v j) (sum_by v js), ap (λ s. sum_by u is * s) (sum_by-cons v j js))

-- 1 for the odd numbers below m, and 0 for the others
abbrev odd_below : ℕ → ℕ → ℕ
odd_below m i = cond (eqb (i % 2) 1 && ltb i m) 1 0

a-remainder : (r : ℕ) → r < 2 → cond (eqb r 1) 1 0 ≡ r
a-remainder zero small = refl
a-remainder (suc zero) small = refl
a-remainder (suc (suc r)) small = absurd (omega arith)

and-below : (b : Bool) → cond {A = ℕ} (b && true) 1 0 ≡ cond b 1 0
and-below true = refl
and-below false = refl

and-past : (b : Bool) → cond {A = ℕ} (b && false) 1 0 ≡ 0
and-past true = refl
and-past false = refl

odd-inside : (m i : ℕ) → i < m → odd_below m i ≡ i % 2
odd-inside m i below =
    ap (λ l. cond (eqb (i % 2) 1 && l) 1 0) (lt-ltb i m below) ∙ and-below (eqb (i % 2) 1) ∙ a-remainder (i % 2) (omega arith)

odd-outside : (m i : ℕ) → m ≤ i → odd_below m i ≡ 0
odd-outside m i past = ap (λ l. cond (eqb (i % 2) 1 && l) 1 0) (le-ltb i m past) ∙ and-past (eqb (i % 2) 1)

-- past the last number nothing is left
last-one : (m a k : ℕ) → m ≤ a → a ≤ m → a + suc k ≤ m + 1 → odd_below m a + sum_by (odd_below m) (range_with_len (a + 1) k) ≡ min (a + suc k) m / 2 - a / 2
last-one m a zero past low high = omega (arith, odd-outside m a past)
last-one m a (suc k) past low high = absurd (omega arith)

-- how many odd numbers below m a range has that goes no further than m
odds : (m a k : ℕ) → a ≤ m → a + k ≤ m + 1 → sum_by (odd_below m) (range_with_len a k) ≡ min (a + k) m / 2 - a / 2
odds m a zero low high = omega arith
odds m a (suc k) low high =
    sum_by-cons (odd_below m) a (range_with_len (a + 1) k)
    ∙ elim (cases_lt a m) [
      | inl below ↦ omega (arith, odd-inside m a below, odds m (a + 1) k (omega (arith, below)) (omega (arith, high)))
      | inr past ↦ last-one m a k past low high
    ]

-- a cell is left out where both of its numbers are so
both : (a b c d : Bool) → cond (a && b && c && d) 1 0 ≡ cond (a && c) 1 0 * cond (b && d) 1 0
both false b c d = omega arith
both true false c d = omega arith
both true true false d = omega arith
both true true true d = omega arith

missing-two : (b : Bool) (xs : List (List ℕ)) → length xs ≡ 2 → length (cond b [] xs) + 2 * cond b 1 0 ≡ 2
missing-two true xs two = refl
missing-two false xs two = omega (arith, two)

abbrev missing : ℕ → ℕ × ℕ → ℕ
missing m c = odd_below m c.0 * odd_below m c.1

missing-cell : (n : ℕ) (c : ℕ × ℕ) → length (faces_but_holes n c) + 2 * missing (n - 1) c ≡ 2
missing-cell n (i, j) =
    omega (
      arith,
      both (eqb (i % 2) 1) (eqb (j % 2) 1) (ltb i (n - 1)) (ltb j (n - 1)),
      missing-two (is_hole n (i, j)) (cell_faces (pair_number (n + 1)) (i, j)) refl,
    )

-- the cells that are left out
cells-missing : (n : ℕ) → sum_by (missing (n - 1)) (pairs n) ≡ (n - 1) / 2 * ((n - 1) / 2)
unfolding pairs
cells-missing n =
    let count : sum_by (odd_below (n - 1)) (range_with_len 0 n) ≡ (n - 1) / 2 = odds (n - 1) 0 n (omega arith) (omega arith) ∙ omega arith in
    rows-sum (odd_below (n - 1)) (odd_below (n - 1)) (range_with_len 0 n) (range_with_len 0 n)
    ∙ ap (λ s. s * s) count

-- two faces for each other cell
pub length-holes : (n : ℕ) → length (flat_map (faces_but_holes n) (pairs n)) ≡ 2 * (n * n - (n - 1) / 2 * ((n - 1) / 2))
length-holes n =
    omega (arith, two-each (faces_but_holes n) (missing (n - 1)) (missing-cell n) (pairs n), cells-missing n, length-pairs n)
