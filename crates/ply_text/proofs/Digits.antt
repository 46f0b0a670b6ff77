-- Digits read from the left, up to a bound.
use Rattle.std.proofs.Common.{◌≡◌, ℕ, ◌+◌, ◌-◌, ◌*◌, ◌<◌, ◌≤◌, Bool, true, false, cond, leb, ◌&&◌, List, [], ◌∷◌, length, Option, Some, None, refl, sym, inl, inr, arith}
use Rattle.std.specs.Prelude.{fold}
use Rattle.std.specs.List.{list_all}
use Rattle.std.proofs.lemmas.Bool.{cases_lt, cases_Bool, le-leb, lt-leb, lt-ltb}
use Rattle.ply_text.specs.Numbers.{is_digit, is_digits, digits_value, natural_of, only_if, natural_within}

-- the number that the digits write when they follow those of n
abbrev pub value_after : ℕ → List ℕ → ℕ
value_after n cs = fold (λ n c. n * 10 + (c - 48)) n cs

pub le_value_after : (n : ℕ) (cs : List ℕ) → n ≤ value_after n cs
le_value_after n [] = omega arith
le_value_after n (c ∷ cs) = omega (arith, le_value_after (n * 10 + (c - 48)) cs)

-- the number of the digits after those of n, as long as it is at most `most`
abbrev pub within_after : ℕ → ℕ → List ℕ → Option ℕ
within_after most n [] = Some n
within_after most n (c ∷ cs) = cond (is_digit c && leb (n * 10 + (c - 48)) most) (within_after most (n * 10 + (c - 48)) cs) None

abbrev bounded : ℕ → Bool → ℕ → Option ℕ
bounded most digits n = only_if (λ m. leb m most) (cond digits (Some n) None)

bounded_no : (most n : ℕ) (digits : Bool) → digits ≡ false → bounded most digits n ≡ None
bounded_no most n digits e = rw e refl

bounded_past : (most n : ℕ) (digits : Bool) → most < n → bounded most digits n ≡ None
bounded_past most n true h = rw (lt-leb n most h) refl
bounded_past most n false h = refl

pub within_after_is : (most n : ℕ) (cs : List ℕ) → n ≤ most → within_after most n cs ≡ bounded most (list_all is_digit cs) (value_after n cs)
within_after_is most n [] h = rw (le-leb n most h) refl
within_after_is most n (c ∷ cs) h = elim (cases_Bool (is_digit c)) [
  | inr other ↦ rw (other) refl
  | inl digit ↦ elim (cases_lt most (n * 10 + (c - 48))) [
    | inl past ↦ rw (digit, lt-leb (n * 10 + (c - 48)) most past) (sym (bounded_past most (value_after (n * 10 + (c - 48)) cs) (list_all is_digit cs) (omega (arith, le_value_after (n * 10 + (c - 48)) cs))))
    | inr le ↦ rw (digit, le-leb (n * 10 + (c - 48)) most le) (within_after_is most (n * 10 + (c - 48)) cs le)
  ]
]

pub natural_within_is : (most : ℕ) (token : List ℕ) → 0 < length token → natural_within most token ≡ within_after most 0 token
unfolding natural_within natural_of is_digits digits_value
natural_within_is most token long = rw (lt-ltb 0 (length token) long) (sym (within_after_is most 0 token (omega arith)))

pub natural_within_nil : (most : ℕ) (token : List ℕ) → length token ≡ 0 → natural_within most token ≡ None
unfolding natural_within natural_of is_digits
natural_within_nil most [] e = refl
natural_within_nil most (c ∷ cs) e = absurd (omega arith)
