-- Sides by their numbers, and that no map of more numbers into fewer keeps all apart.
use Rattle.std.proofs.Common.{◌≡◌, ◌≢◌, ℕ, zero, suc, ◌+◌, ◌*◌, ◌/◌, ◌%◌, ◌<◌, ◌≤◌, cond, eqb, inl, inr, sym, refl, ap, ◌∙◌, arith, eqb-true}
use Rattle.std.proofs.lemmas.Bool.{cases_Bool, cond-true, cond-false, eqb-false, cases_eq}
use Rattle.corner_table.specs.Sides.{Side, Place, first, second, third, side, number, side_at, place_number, place_of}

pub side_at-number : (s : Side) → side_at (number s) ≡ s
side_at-number s = go s.place refl
  where
    at : (k : Place) (j : ℕ) → place_number k ≡ j → place_of j ≡ k → j < 3 → side_at (3 * s.face + place_number k) ≡ side s.face k
    at k j e f h =
        let q : (3 * s.face + place_number k) / 3 ≡ s.face = omega arith in
        let r : (3 * s.face + place_number k) % 3 ≡ j = omega arith in
        ap (λ (n : ℕ). side n (place_of ((3 * s.face + place_number k) % 3))) q ∙ ap (λ (n : ℕ). side s.face (place_of n)) r ∙ ap (side s.face) f

    go : (k : Place) → s.place ≡ k → side_at (number s) ≡ s
    go first e = ap (λ (k : Place). side_at (3 * s.face + place_number k)) e ∙ at first 0 refl refl (omega arith) ∙ ap (side s.face) (sym e)
    go second e = ap (λ (k : Place). side_at (3 * s.face + place_number k)) e ∙ at second 1 refl refl (omega arith) ∙ ap (side s.face) (sym e)
    go third e = ap (λ (k : Place). side_at (3 * s.face + place_number k)) e ∙ at third 2 refl refl (omega arith) ∙ ap (side s.face) (sym e)

place_number-lt : (k : Place) → place_number k < 3
place_number-lt first = omega arith
place_number-lt second = omega arith
place_number-lt third = omega arith

place_number-place_of : (n : ℕ) → n < 3 → place_number (place_of n) ≡ n
place_number-place_of zero h = refl
place_number-place_of (suc zero) h = refl
place_number-place_of (suc (suc zero)) h = refl
place_number-place_of (suc (suc (suc n))) h = absurd (omega arith)

pub number-side_at : (n : ℕ) → number (side_at n) ≡ n
number-side_at n =
    let h : n % 3 < 3 = omega arith in
    let e = place_number-place_of (n % 3) h in
    omega arith

pub number-lt : (s : Side) (faces : ℕ) → s.face < faces → number s < 3 * faces
number-lt s faces h = let k = place_number-lt s.place in omega arith

pub face-lt : (n faces : ℕ) → n < 3 * faces → (side_at n).face < faces
face-lt n faces h = omega arith

pub number_injective : (s t : Side) → number s ≡ number t → s ≡ t
number_injective s t e = sym (side_at-number s) ∙ ap side_at e ∙ side_at-number t

-- the value n is given to the last one
abbrev moved : ℕ → (ℕ → ℕ) → ℕ → ℕ
moved n f i = cond (eqb (f i) n) (f (suc n)) (f i)

moved_at : (n : ℕ) (f : ℕ → ℕ) (i : ℕ) → f i ≡ n → moved n f i ≡ f (suc n)
moved_at n f i e = elim (cases_Bool (eqb (f i) n)) [ inl t ↦ cond-true _ _ _ t | inr t ↦ absurd (eqb-false (f i) n t e) ]

moved_off : (n : ℕ) (f : ℕ → ℕ) (i : ℕ) → (f i ≡ n → ⊥) → moved n f i ≡ f i
moved_off n f i e = elim (cases_Bool (eqb (f i) n)) [ inl t ↦ absurd (e (eqb-true (f i) n t)) | inr t ↦ cond-false _ _ _ t ]

-- n + 1 numbers below n are not all different
pub no_room : (n : ℕ) (f : ℕ → ℕ) → ((i : ℕ) → i ≤ n → f i < n) → ((i j : ℕ) → i ≤ n → j ≤ n → f i ≡ f j → i ≡ j) → ⊥
no_room zero f small apart = absurd (let h = small 0 (omega arith) in omega arith)
no_room (suc n) f small apart = no_room n (moved n f) below distinct
  where
    last : f (suc n) < suc n
    last = small (suc n) (omega arith)

    below : (i : ℕ) → i ≤ n → moved n f i < n
    below i h =
        elim (cases_eq (f i) n) [
          | inl e ↦
              let m = moved_at n f i e in
              let k : f (suc n) ≢ n = λ q. (let r = apart i (suc n) (omega arith) (omega arith) (e ∙ sym q) in absurd (omega arith)) in
              omega arith
          | inr e ↦
              let m = moved_off n f i e in
              let s = small i (omega arith) in
              omega arith
        ]

    distinct : (i j : ℕ) → i ≤ n → j ≤ n → moved n f i ≡ moved n f j → i ≡ j
    distinct i j h k e =
        elim (cases_eq (f i) n) [
          | inl p ↦ elim (cases_eq (f j) n) [
            | inl q ↦ apart i j (omega arith) (omega arith) (p ∙ sym q)
            | inr q ↦
                let r = apart j (suc n) (omega arith) (omega arith) (sym (moved_off n f j q) ∙ sym e ∙ moved_at n f i p) in
                absurd (omega arith)
          ]
          | inr p ↦ elim (cases_eq (f j) n) [
            | inl q ↦
                let r = apart i (suc n) (omega arith) (omega arith) (sym (moved_off n f i p) ∙ e ∙ moved_at n f j q) in
                absurd (omega arith)
            | inr q ↦ apart i j (omega arith) (omega arith) (sym (moved_off n f i p) ∙ e ∙ moved_off n f j q)
          ]
        ]
