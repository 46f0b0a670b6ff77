-- The component with the most bits left.
use Rattle.std.proofs.Common.{◌≡◌, ℕ, suc, ◌+◌, ◌-◌, ◌<◌, ◌≤◌, ◌==◌, max, Bool, nat_lt, List, [], ◌∷◌, length, get_or, sum, fold, refl, sym, ◌∙◌, inl, inr, arith, ltb-true, ltb-false}
use Rattle.std.specs.Prelude.{◌⊎◌}
use Rattle.std.specs.List.{All, IsFirstBest}
use Rattle.std.proofs.lemmas.Bool.{cases_lt, eq-eqb, ne_eqb, eqb-true, false≢true}
use Rattle.std.proofs.lemmas.List.{get_or_default}
use Rattle.std.proofs.lemmas.List.Elements.{All-nil, All-cons, All-head, All-tail}
use Rattle.std.proofs.lemmas.List.Sums.{position_or_len_is, fails_before_first, passes_at_first, sum_by-cons, sum_by-set}
use Rattle.kd_points.specs.Axes.{fullest, one_fewer}

-- the greatest is at least the first and each
greatest-bounds : (a : ℕ) (xs : List ℕ) → (a ≤ fold max a xs) × All (λ x. x ≤ fold max a xs) xs
greatest-bounds a [] = (omega arith, All-nil (λ x. x ≤ a))
greatest-bounds a (x ∷ xs) =
    let h = greatest-bounds (max a x) xs in
    (omega (arith, h.0), All-cons (λ y. y ≤ fold max (max a x) xs) x xs (omega (arith, h.0)) h.1)

-- and at most what is at least the first and each
greatest-most : (a m : ℕ) (xs : List ℕ) → a ≤ m → All (λ x. x ≤ m) xs → fold max a xs ≤ m
greatest-most a m [] first all = first
greatest-most a m (x ∷ xs) first all =
    let here : x ≤ m = All-head (λ y. y ≤ m) x xs all in
    greatest-most (max a x) m xs (omega arith) (All-tail (λ y. y ≤ m) x xs all)

-- the first of the greatest is the fullest
pub fullest-is : (left : List ℕ) (b : ℕ) → IsFirstBest (λ x y. nat_lt y x) left (length left) b → b ≡ fullest left
fullest-is left b best =
    let m = get_or left b 0 in
    let most : fold max 0 left ≤ m = greatest-most 0 m left (omega arith) (λ k d inside.
    let above = ltb-false (get_or left b d) (get_or left k d) (best.1 k d inside) in
    let same : get_or left b d ≡ m = get_or_default left b d 0 best.0 in omega (arith, above, same)) in
    let least : m ≤ fold max 0 left = (greatest-bounds 0 left).1 b 0 best.0 in
    let is : m ≡ fold max 0 left = omega (arith, most, least) in
    sym (position_or_len_is (λ bits. bits == fold max 0 left) left b 0 (omega (arith, best.0))
    (λ k below. let less = ltb-true (get_or left k 0) m (best.2 k 0 below) in ne_eqb (get_or left k 0) (fold max 0 left) (λ e. absurd (omega (arith, e, is, less))))
    (λ _. eq-eqb m (fold max 0 left) is))

-- where all are 0, so is the sum
none-left : (xs : List ℕ) → All (λ x. x ≤ 0) xs → sum xs ≡ 0
none-left [] all = refl
none-left (x ∷ xs) all =
    let here : x ≤ 0 = All-head (λ x. x ≤ 0) x xs all in
    let rest = none-left xs (All-tail (λ x. x ≤ 0) x xs all) in
    let step = sum_by-cons (λ (n : ℕ). n) x xs in
    omega (arith, here, rest, step)

-- the greatest is the first or stands somewhere
reached : (a : ℕ) (xs : List ℕ) → (fold max a xs ≡ a) ⊎ ((k : ℕ) × (k < length xs) × (get_or xs k 0 ≡ fold max a xs))
reached a [] = inl refl
reached a (x ∷ xs) = elim (reached (max a x) xs) [
  | inl e ↦ elim (cases_lt a x) [
    | inl less ↦ (let is : x ≡ fold max (max a x) xs = omega (arith, e, less) in inr (0, omega arith, is))
    | inr most ↦ (let is : fold max (max a x) xs ≡ a = omega (arith, e, most) in inl is)
  ]
  | inr found ↦ inr (suc found.0, omega (arith, found.1), found.2)
]

-- while bits are left, the fullest component has one
pub fullest-some : (left : List ℕ) → 0 < sum left → (fullest left < length left) × (0 < get_or left (fullest left) 0)
fullest-some left some =
    let m = fold max 0 left in
    let p : ℕ → Bool = λ bits. bits == m in
    let positive : 0 < m = elim (cases_lt 0 m) [
      | inl h ↦ h
      | inr low ↦ absurd (omega (arith, some, none-left left (λ k d inside. let h = (greatest-bounds 0 left).1 k d inside in omega (arith, h, low))))
    ] in
    let found : (k : ℕ) × (k < length left) × (get_or left k 0 ≡ m) = elim (reached 0 left) [
      | inl e ↦ absurd (omega (arith, e, positive))
      | inr found ↦ found
    ] in
    let within : fullest left < length left = elim (cases_lt (fullest left) (length left)) [
      | inl h ↦ h
      | inr past ↦
          (let fails = fails_before_first p left found.0 0 (omega (arith, past, found.1)) in
          absurd (false≢true (sym fails ∙ eq-eqb (get_or left found.0 0) m found.2)))
    ] in
    let at = eqb-true (get_or left (fullest left) 0) m (passes_at_first p left 0 within) in
    (within, omega (arith, at, positive))

-- one bit fewer is left
pub one_fewer-sum : (left : List ℕ) → 0 < sum left → sum (one_fewer left (fullest left)) + 1 ≡ sum left
one_fewer-sum left some =
    let has = fullest-some left some in
    let step = sum_by-set (λ (n : ℕ). n) left (fullest left) (get_or left (fullest left) 0 - 1) 0 has.0 in
    omega (arith, step, has.1)
