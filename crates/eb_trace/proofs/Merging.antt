-- Two of the numbers up to k become one, and all below k stay in use.
use Rattle.std.proofs.Common.{◌≡◌, ◌≢◌, ℕ, suc, ◌<◌, cond, ◌==◌, ◌⊎◌, inl, inr, sym, refl, ◌∙◌, arith, eq-eqb, ne_eqb}
use Rattle.std.proofs.lemmas.Bool.{cases_eq, cases_order, cond-true, cond-false}

-- of the numbers up to k, two become one, and the last takes the place that is free
pub record IsMerging (k p q : ℕ) (to : ℕ → ℕ) : Type 0 where
  pub bounded : (n : ℕ) → n < suc k → to n < k
  pub used : (j : ℕ) → j < k → (n : ℕ) × (n < suc k) × (to n ≡ j)
  pub meets : to p ≡ to q
  pub tells : (a b : ℕ) → to a ≡ to b → (a ≡ b) ⊎ (((a ≡ p) × (b ≡ q)) ⊎ ((a ≡ q) × (b ≡ p)))

abbrev merge_to : ℕ → ℕ → ℕ → ℕ → ℕ
merge_to k p q n = cond (n == q) p (cond (n == k) q n)

abbrev Merges : ℕ → ℕ → ℕ → ℕ → Type 0
Merges k p q n = ((n ≡ q) × (merge_to k p q n ≡ p)) ⊎ (((n ≢ q) × (n ≡ k) × (merge_to k p q n ≡ q)) ⊎ ((n ≢ q) × (n ≢ k) × (merge_to k p q n ≡ n)))

merges : (k p q n : ℕ) → Merges k p q n
merges k p q n = elim (cases_eq n q) [
  | inl e ↦ inl (e, cond-true (n == q) p (cond (n == k) q n) (eq-eqb n q e))
  | inr e ↦ elim (cases_eq n k) [
    | inl i ↦ inr (inl (e, i, cond-false (n == q) p (cond (n == k) q n) (ne_eqb n q e) ∙ cond-true (n == k) q n (eq-eqb n k i)))
    | inr i ↦ inr (inr (e, i, cond-false (n == q) p (cond (n == k) q n) (ne_eqb n q e) ∙ cond-false (n == k) q n (ne_eqb n k i)))
  ]
]

merging : (k p q : ℕ) → p < q → q < suc k → IsMerging k p q (merge_to k p q)
merging k p q l h = record { bounded = bounded; used = used; meets = meets; tells = tells }
  where
    bounded : (n : ℕ) → n < suc k → merge_to k p q n < k
    bounded n b = elim (merges k p q n) [
      | inl t ↦ (let e : merge_to k p q n ≡ p = t.1 in omega arith)
      | inr s ↦ elim s [
        | inl t ↦ (let e : merge_to k p q n ≡ q = t.2 in let i : n ≡ k = t.1 in let o : n ≢ q = t.0 in omega arith)
        | inr t ↦ (let e : merge_to k p q n ≡ n = t.2 in let i : n ≢ k = t.1 in omega arith)
      ]
    ]

    used : (j : ℕ) → j < k → (n : ℕ) × (n < suc k) × (merge_to k p q n ≡ j)
    used j b = elim (cases_eq j q) [
      | inl e ↦ elim (merges k p q k) [
        | inl t ↦ absurd (let i : k ≡ q = t.0 in omega arith)
        | inr s ↦ elim s [
          | inl t ↦ (k, omega arith, t.2 ∙ sym e)
          | inr t ↦ absurd (t.1 refl)
        ]
      ]
      | inr e ↦ elim (merges k p q j) [
        | inl t ↦ absurd (e t.0)
        | inr s ↦ elim s [
          | inl t ↦ absurd (let i : j ≡ k = t.1 in omega arith)
          | inr t ↦ (j, omega arith, t.2)
        ]
      ]
    ]

    meets : merge_to k p q p ≡ merge_to k p q q
    meets = elim (merges k p q q) [
      | inr s ↦ elim s [ inl t ↦ absurd (t.0 refl) | inr t ↦ absurd (t.0 refl) ]
      | inl u ↦ elim (merges k p q p) [
        | inl t ↦ absurd (let i : p ≡ q = t.0 in omega arith)
        | inr s ↦ elim s [
          | inl t ↦ absurd (let i : p ≡ k = t.1 in omega arith)
          | inr t ↦ t.2 ∙ sym u.1
        ]
      ]
    ]

    tells : (a b : ℕ) → merge_to k p q a ≡ merge_to k p q b → (a ≡ b) ⊎ (((a ≡ p) × (b ≡ q)) ⊎ ((a ≡ q) × (b ≡ p)))
    tells a b e = elim (merges k p q a) [
      | inl t ↦ elim (merges k p q b) [
        | inl u ↦ inl (t.0 ∙ sym u.0)
        | inr s ↦ elim s [
          | inl u ↦ absurd (let i : p ≡ q = sym t.1 ∙ e ∙ u.2 in omega arith)
          | inr u ↦ inr (inr (t.0, sym (sym t.1 ∙ e ∙ u.2)))
        ]
      ]
      | inr s ↦ elim s [
        | inl t ↦ elim (merges k p q b) [
          | inl u ↦ absurd (let i : q ≡ p = sym t.2 ∙ e ∙ u.1 in omega arith)
          | inr s2 ↦ elim s2 [
            | inl u ↦ inl (t.1 ∙ sym u.1)
            | inr u ↦ absurd (u.0 (sym (sym t.2 ∙ e ∙ u.2)))
          ]
        ]
        | inr t ↦ elim (merges k p q b) [
          | inl u ↦ inr (inl (sym t.2 ∙ e ∙ u.1, u.0))
          | inr s2 ↦ elim s2 [
            | inl u ↦ absurd (t.0 (sym t.2 ∙ e ∙ u.2))
            | inr u ↦ inl (sym t.2 ∙ e ∙ u.2)
          ]
        ]
      ]
    ]

-- in either order
pub merging_any : (k p q : ℕ) → p ≢ q → p < suc k → q < suc k → (to : ℕ → ℕ) × IsMerging k p q to
merging_any k p q n a b = elim (cases_order p q) [
  | inl e ↦ absurd (n e)
  | inr s ↦ elim s [
    | inl l ↦ (merge_to k p q, merging k p q l b)
    | inr l ↦ (
      merge_to k q p,
      (
          let m = merging k q p l a in
          record {
            bounded = m.bounded;
            used = m.used;
            meets = sym m.meets;
            tells = λ x y e. elim (m.tells x y e) [ inl i ↦ inl i | inr t ↦ elim t [ inl u ↦ inr (inr u) | inr u ↦ inr (inl u) ] ];
          }),
    )
  ]
]
