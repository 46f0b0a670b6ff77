-- The least number that passes a test.
use Rattle.std.proofs.Common.{◌≡◌, ℕ, zero, suc, ◌<◌, Bool, true, false, Some, None, inl, inr, sym, refl, ap, ◌∙◌, arith}
use Rattle.std.proofs.lemmas.Bool.{cases_Bool, cases_eq, cases_lt, cond-true, cond-false}
use Rattle.pairing.specs.Pairing.{least}

-- a number below n that passes, and none below it does
pub record IsLeast (passes : ℕ → Bool) (n i : ℕ) : Type 0 where
  pub below : i < n
  pub passes_it : passes i ≡ true
  pub first : (j : ℕ) → j < i → passes j ≡ false

least-found : (passes : ℕ → Bool) (n i : ℕ) → least passes n ≡ Some i → least passes (suc n) ≡ Some i
unfolding least
least-found passes n i e = rw (e, least) refl

least-new : (passes : ℕ → Bool) (n : ℕ) → least passes n ≡ None → passes n ≡ true → least passes (suc n) ≡ Some n
unfolding least
least-new passes n e p = rw (e, least) (cond-true (passes n) (Some n) None p)

least-none : (passes : ℕ → Bool) (n : ℕ) → least passes n ≡ None → passes n ≡ false → least passes (suc n) ≡ None
unfolding least
least-none passes n e p = rw (e, least) (cond-false (passes n) (Some n) None p)

least-zero : (passes : ℕ → Bool) → least passes zero ≡ None
unfolding least
least-zero passes = refl

-- what the least number says
pub data LeastCase (passes : ℕ → Bool) (n : ℕ) : Type 0 where
  found : (i : ℕ) → least passes n ≡ Some i → IsLeast passes n i → LeastCase passes n
  missing : least passes n ≡ None → ((j : ℕ) → j < n → passes j ≡ false) → LeastCase passes n

below_suc : (passes : ℕ → Bool) (n : ℕ) → ((j : ℕ) → j < n → passes j ≡ false) → passes n ≡ false → (j : ℕ) → j < suc n → passes j ≡ false
below_suc passes n h p j l = elim (cases_eq j n) [ inl e ↦ ap passes e ∙ p | inr m ↦ h j (omega arith) ]

pub least_tells : (passes : ℕ → Bool) (n : ℕ) → LeastCase passes n
least_tells passes zero = missing (least-zero passes) (λ j h. absurd (omega arith))
least_tells passes (suc n) = elim (least_tells passes n) [
  | found i e I ↦ found i (least-found passes n i e) (record { below = (let b = I.below in omega arith); passes_it = I.passes_it; first = I.first })
  | missing e h ↦ elim (cases_Bool (passes n)) [
    | inl p ↦ found n (least-new passes n e p) (record { below = omega arith; passes_it = p; first = h })
    | inr p ↦ missing (least-none passes n e p) (below_suc passes n h p)
  ]
]

-- and what makes a number the least
pub least_is : (passes : ℕ → Bool) (n i : ℕ) → IsLeast passes n i → least passes n ≡ Some i
least_is passes n i I = elim (least_tells passes n) [
  | found j e J ↦ e ∙ ap {A = ℕ} Some (same j J)
  | missing e h ↦ absurd (let no : true ≡ false = sym I.passes_it ∙ h i I.below in cc)
]
  where
    same : (j : ℕ) → IsLeast passes n j → j ≡ i
    same j J = elim (cases_eq j i) [
      | inl e ↦ e
      | inr m ↦ elim (cases_lt j i) [
        | inl l ↦ absurd (let no : true ≡ false = sym J.passes_it ∙ I.first j l in cc)
        | inr l ↦ absurd (let lt : i < j = omega arith in let no : true ≡ false = sym I.passes_it ∙ J.first i lt in cc)
      ]
    ]

pub least_is_none : (passes : ℕ → Bool) (n : ℕ) → ((j : ℕ) → j < n → passes j ≡ false) → least passes n ≡ None
least_is_none passes n h = elim (least_tells passes n) [
  | found j e J ↦ absurd (let no : true ≡ false = sym J.passes_it ∙ h j J.below in cc)
  | missing e h ↦ e
]

-- tests that agree below n have one least number
pub least_congr : (p q : ℕ → Bool) (n : ℕ) → ((j : ℕ) → j < n → p j ≡ q j) → least p n ≡ least q n
least_congr p q n h = elim (least_tells p n) [
  | found i e I ↦ e ∙ sym (least_is q n i (record { below = I.below; passes_it = sym (h i I.below) ∙ I.passes_it; first = λ j l. (let b = I.below in sym (h j (omega arith)) ∙ I.first j l) }))
  | missing e k ↦ e ∙ sym (least_is_none q n (λ j l. sym (h j l) ∙ k j l))
]
