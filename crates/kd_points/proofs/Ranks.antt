-- Numbers in the order of a comparison that ties no two of them: at each place stands the number of that rank.
use Rattle.std.proofs.Common.{◌≡◌, ℕ, zero, suc, ◌+◌, ◌<◌, ◌≤◌, Bool, true, false, cond, List, [], ◌∷◌, length, map, get_or, inl, inr, refl, sym, ◌∙◌, ap, arith, eq-eqb, ne_eqb, zero-add}
use Rattle.std.specs.Prelude.{◌==◌, nat_eq, IsPermutation, IsSorted, Contains, count_by}
use Rattle.std.specs.List.{range_with_len, position_or_len, IsDistinct}
use Rattle.std.specs.Ordering.{is_lt, ordering_reverse}
use Rattle.std.specs.declared.cmp.Ordering.{Ordering}
use Rattle.std.specs.declared.cmp.Ordering.TheVariants.{Less, Equal, Greater}
use Rattle.std.specs.Cmp.{IsTotalOrder}
use Rattle.std.proofs.lemmas.Bool.{cases_lt, false≢true}
use Rattle.std.proofs.lemmas.List.{get_or_default, same_lists}
use Rattle.std.proofs.lemmas.List.FromFn.{get_or-range_with_len, get_or-map-range_with_len, length-range_with_len, length-map-range_with_len}
use Rattle.std.proofs.lemmas.List.Sorted.{All-permutation, Contains-permutation, length_permutation, ranks_by, sorted_far, sum_by-IsPermutation}
use Rattle.std.proofs.lemmas.List.Sums.{position_or_len_is, sum_by-cons}
use Rattle.std.proofs.lemmas.Map.Keys.{IsDistinct-IsPermutation, IsDistinct-from_apart, apart_from_distinct}

-- a list of which the first k, and no others, pass
pub count-front : {X : Type 0} (p : X → Bool) (xs : List X) (k : ℕ) → k ≤ length xs → ((m : ℕ) (d : X) → m < k → p (get_or xs m d) ≡ true)
    → ((m : ℕ) (d : X) → k ≤ m → m < length xs → p (get_or xs m d) ≡ false) → count_by p xs ≡ k
count-front p [] zero le passes fails = refl
count-front p [] (suc k) le passes fails = absurd (omega (arith, le))
count-front p (x ∷ xs) zero le passes fails =
    let rest = count-front p xs zero (omega arith) (λ m d below. absurd (omega (arith, below))) (λ m d low inside. fails (suc m) d (omega arith) (omega (arith, inside))) in
    sum_by-cons (λ y. cond (p y) 1 0) x xs ∙ ap (λ b. cond b 1 0 + count_by p xs) (fails 0 x (omega arith) (omega arith)) ∙ omega (arith, rest)
count-front p (x ∷ xs) (suc k) le passes fails =
    let rest = count-front p xs k (omega (arith, le)) (λ m d below. passes (suc m) d (omega (arith, below))) (λ m d low inside. fails (suc m) d (omega (arith, low)) (omega (arith, inside))) in
    sum_by-cons (λ y. cond (p y) 1 0) x xs ∙ ap (λ b. cond b 1 0 + count_by p xs) (passes 0 x (omega arith)) ∙ omega (arith, rest)

flips : (x y : ℕ) → nat_eq x y ≡ nat_eq y x
flips x y = elim (cases_lt x y) [
  | inl low ↦ ne_eqb x y (λ e. absurd (omega (arith, e, low))) ∙ sym (ne_eqb y x (λ e. absurd (omega (arith, e, low))))
  | inr high ↦ elim (cases_lt y x) [
    | inl over ↦ ne_eqb x y (λ e. absurd (omega (arith, e, over))) ∙ sym (ne_eqb y x (λ e. absurd (omega (arith, e, over))))
    | inr same ↦ eq-eqb x y (omega (arith, high, same)) ∙ sym (eq-eqb y x (omega (arith, high, same)))
  ]
]

range-distinct : (n : ℕ) → IsDistinct nat_eq (range_with_len 0 n)
range-distinct n = IsDistinct-from_apart nat_eq (range_with_len 0 n) (λ i j d below inside.
    let small : j < n = omega (arith, inside, length-range_with_len 0 n) in
    let first = get_or-range_with_len 0 n i d (omega (arith, below, small)) in
    let second = get_or-range_with_len 0 n j d small in
    ne_eqb (get_or (range_with_len 0 n) i d) (get_or (range_with_len 0 n) j d) (λ e. absurd (omega (arith, e, first, second, below))))

module _ (cmp : ℕ → ℕ → Ordering) (total : IsTotalOrder cmp) (tied : (i j : ℕ) → cmp i j ≡ Equal → i ≡ j) (n : ℕ) (order : List ℕ)
    (each : IsPermutation (range_with_len 0 n) order) (ascending : IsSorted cmp order) where
  abbrev pub rank : ℕ → ℕ
  rank i = count_by (λ j. is_lt (cmp j i)) (range_with_len 0 n)

  long : length order ≡ n
  long = length_permutation (range_with_len 0 n) order each ∙ length-range_with_len 0 n

  -- no number stands twice
  apart : (m k d : ℕ) → m < k → k < length order → get_or order m d ≡ get_or order k d → ⊥
  apart m k d below inside same =
      false≢true (sym (apart_from_distinct nat_eq order m k d (IsDistinct-IsPermutation nat_eq flips (range_with_len 0 n) order each (range-distinct n)) below inside)
      ∙ eq-eqb (get_or order m d) (get_or order k d) same)

  -- one that isn't above another and isn't the other comes before it
  comes-first : (i j : ℕ) (o : Ordering) → cmp j i ≡ o → is_lt (cmp i j) ≡ false → (j ≡ i → ⊥) → is_lt o ≡ true
  comes-first i j Less is low other = refl
  comes-first i j Equal is low other = absurd (other (tied j i is))
  comes-first i j Greater is low other = absurd (false≢true (sym low ∙ ap is_lt (total.antisymm i j ∙ ap ordering_reverse is)))

  far : (m k d : ℕ) → m ≤ k → k < length order → is_lt (cmp (get_or order k d) (get_or order m d)) ≡ false
  far m k d low inside = sorted_far (λ x y. is_lt (cmp x y)) (ranks_by total (λ i. i)) order ascending m k d low inside

  -- the rank of the number at a place
  rank-at : (k d : ℕ) → k < length order → rank (get_or order k d) ≡ k
  rank-at k d inside =
      let i = get_or order k d in
      let p : ℕ → Bool = λ j. is_lt (cmp j i) in
      sym (sum_by-IsPermutation (λ j. cond (p j) 1 0) (range_with_len 0 n) order each)
      ∙ count-front p order k (omega (arith, inside))
      (λ m e below.
      let m-inside : m < length order = omega (arith, below, inside) in
      let is : get_or order m e ≡ get_or order m d = get_or_default order m e d m-inside in
      ap p is ∙ comes-first i (get_or order m d) (cmp (get_or order m d) i) refl (far m k d (omega (arith, below)) inside) (λ same. apart m k d below inside same))
      (λ m e low within. ap p (get_or_default order m e d within) ∙ far k m d low within)

  -- and each number has the rank of its place alone
  at-rank : (i k d : ℕ) → i < n → k < length order → rank i ≡ k → i ≡ get_or order k d
  at-rank i k d small inside is =
      let there : Contains (range_with_len 0 n) i = (i, omega (arith, small, length-range_with_len 0 n), get_or-range_with_len 0 n i i small ∙ zero-add i) in
      let (m, m-inside, at) = Contains-permutation (range_with_len 0 n) order i each there in
      let place : m ≡ k = sym (rank-at m i m-inside) ∙ ap rank at ∙ is in
      sym at ∙ get_or_default order m i d m-inside ∙ ap (λ j. get_or order j d) place

  -- each number is one of those
  within : (k d : ℕ) → k < length order → get_or order k d < n
  within k d inside = All-permutation (λ i. i < n) (range_with_len 0 n) order each (λ m e there.
      let small : m < n = omega (arith, there, length-range_with_len 0 n) in
      omega (arith, get_or-range_with_len 0 n m e small, small)) k d inside

  -- the number of a rank
  abbrev pub of_rank : ℕ → ℕ
  of_rank k = position_or_len (λ i. rank i == k) (range_with_len 0 n)

  of_rank-is : (k : ℕ) → k < length order → of_rank k ≡ get_or order k 0
  of_rank-is k inside =
      let r = get_or order k 0 in
      let small = within k 0 inside in
      position_or_len_is (λ i. rank i == k) (range_with_len 0 n) r 0 (omega (arith, small, length-range_with_len 0 n))
      (λ j below.
      let at = get_or-range_with_len 0 n j 0 (omega (arith, below, small)) ∙ zero-add j in
      ap (λ i. rank i == k) at ∙ ne_eqb (rank j) k (λ is. absurd (omega (arith, at-rank j k 0 (omega (arith, below, small)) inside is, below))))
      (λ there. ap (λ i. rank i == k) (get_or-range_with_len 0 n r 0 small ∙ zero-add r) ∙ eq-eqb (rank r) k (rank-at k 0 inside))

  -- the order is the numbers by their ranks
  pub ranked : order ≡ map of_rank (range_with_len 0 n)
  ranked = same_lists order (map of_rank (range_with_len 0 n)) (long ∙ sym (length-map-range_with_len of_rank 0 n)) (λ k d inside.
      get_or_default order k d 0 inside ∙ sym (of_rank-is k inside)
      ∙ sym (get_or-map-range_with_len of_rank 0 n k k d (omega (arith, inside, long)) (zero-add k)))
