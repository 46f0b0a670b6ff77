-- How often a test passes in a list.
use Rattle.std.proofs.Common.{◌≡◌, ℕ, zero, suc, ◌+◌, ◌<◌, ◌≤◌, Bool, true, false, cond, eqb, List, [], ◌∷◌, length, get_or, map, refl, sym, ap, ◌∙◌, inl, inr, arith}
use Rattle.std.specs.List.{All, count_by, range_with_len, position_or_len}
use Rattle.std.proofs.lemmas.Bool.{cases_Bool, cases_eq, cases_lt, eq-eqb, ne_eqb, false≢true}
use Rattle.std.proofs.lemmas.List.Elements.{All-head, All-tail}
use Rattle.std.proofs.lemmas.List.Sums.{sum_by-cons, get_or-le-sum_by, position_or_len_is}

-- what one element counts
abbrev pub one_if : {X : Type 0} → (X → Bool) → X → ℕ
one_if p x = cond (p x) 1 0

pub count-cons : {X : Type 0} (p : X → Bool) (x : X) (xs : List X) → count_by p (x ∷ xs) ≡ one_if p x + count_by p xs
count-cons p x xs = sum_by-cons (one_if p) x xs

pub count-map : {X Y : Type 0} (p : Y → Bool) (g : X → Y) (xs : List X) → count_by p (map g xs) ≡ count_by (λ x. p (g x)) xs
count-map p g [] = refl
count-map p g (x ∷ xs) =
    count-cons p (g x) (map g xs) ∙ ap (λ n. one_if p (g x) + n) (count-map p g xs) ∙ sym (count-cons (λ y. p (g y)) x xs)

-- tests that agree on each element count the same
pub count-same : {X : Type 0} (p q : X → Bool) (xs : List X) → All (λ x. p x ≡ q x) xs → count_by p xs ≡ count_by q xs
count-same p q [] agree = refl
count-same p q (x ∷ xs) agree =
    count-cons p x xs
    ∙ ap (λ b. cond b 1 0 + count_by p xs) (All-head (λ y. p y ≡ q y) x xs agree)
    ∙ ap (λ n. one_if q x + n) (count-same p q xs (All-tail (λ y. p y ≡ q y) x xs agree))
    ∙ sym (count-cons q x xs)

-- a test that counts the elements of two others
pub count-sum : {X : Type 0} (p q r : X → Bool) (xs : List X) → ((x : X) → one_if r x ≡ one_if p x + one_if q x) → count_by r xs ≡ count_by p xs + count_by q xs
count-sum p q r [] each = refl
count-sum p q r (x ∷ xs) each =
    omega (arith, count-cons r x xs, count-cons p x xs, count-cons q x xs, each x, count-sum p q r xs each)

-- a test that always passes, or never
pub count-all : {X : Type 0} (p : X → Bool) (xs : List X) → All (λ x. p x ≡ true) xs → count_by p xs ≡ length xs
count-all p [] pass = refl
count-all p (x ∷ xs) pass =
    let here : one_if p x ≡ 1 = ap (λ b. cond b 1 0) (All-head (λ y. p y ≡ true) x xs pass) in
    omega (arith, count-cons p x xs, here, count-all p xs (All-tail (λ y. p y ≡ true) x xs pass))

pub count-never : {X : Type 0} (p : X → Bool) (xs : List X) → ((x : X) → p x ≡ false) → count_by p xs ≡ 0
count-never p [] fail = refl
count-never p (x ∷ xs) fail =
    let here : one_if p x ≡ 0 = ap (λ b. cond b 1 0) (fail x) in
    omega (arith, count-cons p x xs, here, count-never p xs fail)

-- the one place at which a test passes
pub record OnePlace {X : Type 0} (p : X → Bool) (xs : List X) (d : X) (j : ℕ) : Type 0 where
  pub inside : j < length xs
  pub passes : p (get_or xs j d) ≡ true
  pub alone : (k : ℕ) → k < length xs → p (get_or xs k d) ≡ true → k ≡ j

pub one_place : {X : Type 0} (p : X → Bool) (xs : List X) (d : X) → count_by p xs ≡ 1 → (j : ℕ) × OnePlace p xs d j
one_place p [] d one = absurd (omega arith)
one_place p (x ∷ xs) d one = elim (cases_Bool (p x)) [
  | inl here ↦
      let at : one_if p x ≡ 1 = ap (λ b. cond b 1 0) here in
      let none : count_by p xs ≡ 0 = omega (arith, count-cons p x xs, at, one) in
      (0, record { inside = omega arith; passes = here; alone = λ k below passes. first k below passes none })
  | inr there ↦
      let at : one_if p x ≡ 0 = ap (λ b. cond b 1 0) there in
      let rest = one_place p xs d (omega (arith, count-cons p x xs, at, one)) in
      (suc rest.0, record { inside = omega (arith, rest.1.inside); passes = rest.1.passes; alone = λ k below passes. later k below passes there rest.0 rest.1.alone })
]
  where
    first : (k : ℕ) → k < length (x ∷ xs) → p (get_or (x ∷ xs) k d) ≡ true → count_by p xs ≡ 0 → k ≡ 0
    first zero below passes none = refl
    first (suc k) below passes none =
        let one : one_if p (get_or xs k d) ≡ 1 = ap (λ b. cond b 1 0) passes in
        absurd (omega (arith, one, none, get_or-le-sum_by (one_if p) xs k d (omega arith)))

    later : (k : ℕ) → k < length (x ∷ xs) → p (get_or (x ∷ xs) k d) ≡ true → p x ≡ false → (j : ℕ) → ((i : ℕ) → i < length xs → p (get_or xs i d) ≡ true → i ≡ j) → k ≡ suc j
    later zero below passes fails j alone = absurd (false≢true (sym fails ∙ passes))
    later (suc k) below passes fails j alone = ap suc (alone k (omega arith) passes)

-- that place is the first
pub first-one_place : {X : Type 0} (p : X → Bool) (xs : List X) (d : X) (j : ℕ) → OnePlace p xs d j → position_or_len p xs ≡ j
first-one_place p xs d j at =
    position_or_len_is p xs j d (omega (arith, at.inside))
    (λ k before. elim (cases_Bool (p (get_or xs k d))) [
      | inl passes ↦ absurd (omega (arith, at.alone k (omega (arith, at.inside)) passes))
      | inr fails ↦ fails
    ])
    (λ _. at.passes)

-- a number stands once in a range that has it, and nowhere in one that has not
pub count-range_above : (a n v : ℕ) → v < a → count_by (λ f. eqb f v) (range_with_len a n) ≡ 0
count-range_above a zero v below = refl
count-range_above a (suc n) v below =
    let here : one_if (λ f. eqb f v) a ≡ 0 = ap (λ b. cond b 1 0) (ne_eqb a v (λ e. omega arith)) in
    omega (arith, count-cons (λ f. eqb f v) a (range_with_len (a + 1) n), here, count-range_above (a + 1) n v (omega arith))

pub count-range : (a n v : ℕ) → a ≤ v → v < a + n → count_by (λ f. eqb f v) (range_with_len a n) ≡ 1
count-range a zero v from below = absurd (omega arith)
count-range a (suc n) v from below = elim (cases_eq a v) [
  | inl same ↦
      let here : one_if (λ f. eqb f v) a ≡ 1 = ap (λ b. cond b 1 0) (eq-eqb a v same) in
      omega (arith, count-cons (λ f. eqb f v) a (range_with_len (a + 1) n), here, count-range_above (a + 1) n v (omega arith))
  | inr other ↦
      let here : one_if (λ f. eqb f v) a ≡ 0 = ap (λ b. cond b 1 0) (ne_eqb a v other) in
      let after : a + 1 ≤ v = omega (arith, from_other other) in
      omega (arith, count-cons (λ f. eqb f v) a (range_with_len (a + 1) n), here, count-range (a + 1) n v after (omega arith))
]
  where
    from_other : (a ≡ v → ⊥) → a + 1 ≤ v
    from_other other = elim (cases_lt a v) [ inl before ↦ omega arith | inr past ↦ absurd (other (omega arith)) ]
