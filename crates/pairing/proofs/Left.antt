-- What the turns leave free: no two sides that may be paired.
use Rattle.std.proofs.Common.{◌≡◌, ℕ, zero, suc, ◌*◌, ◌<◌, ◌≤◌, true, false, List, Some, None, inl, inr, sym, ap, ◌∙◌, subst, arith}
use Rattle.std.proofs.lemmas.Bool.{cases_Bool, cases_eq, cases_lt}
use Rattle.corner_table.specs.Sides.{Side, side_at, number, Gluing, glue, IsFree}
use Rattle.corner_table.proofs.Places.{option_tells, glue_tells, at_first, at_second, elsewhere}
use Rattle.corner_table.proofs.Numbers.{number-side_at, side_at-number, number-lt, number_injective}
use Rattle.pairing.specs.Pairing.{least, is_choice, turn_of, paired, may_pair}
use Rattle.pairing.specs.Positions.{position_in, same_in, AreTriangles}
use Rattle.pairing.proofs.Least.{found, missing, least_tells}
use Rattle.pairing.proofs.Turns.{AreReversed, ArePairs, choice-tells, tells-choice, may_pair-tells, turn-none, turn-some, paired-suc, pairs_are, reversed_sym}

-- a pair stays a pair in the next turn
turn_keeps : {faces : ℕ} {numbers : List ℕ} {n : ℕ} {g : Gluing} → ArePairs faces numbers n g → (x y : Side) → g x ≡ Some y → turn_of (same_in numbers) n g x ≡ Some y
turn_keeps {faces} {numbers} {n} {g} P x y e = elim (least_tells (is_choice (same_in numbers) g (side_at n)) n) [
  | missing q k ↦ ap (λ (h : Gluing). h x) (turn-none (same_in numbers) n g q) ∙ e
  | found z q I ↦ ap (λ (h : Gluing). h x) (turn-some (same_in numbers) n z g q) ∙ glued z (choice-tells numbers g (side_at n) z I.passes_it).0
]
  where
    glued : (z : ℕ) → g (side_at z) ≡ None → glue (side_at z) (side_at n) g x ≡ Some y
    glued z free = elim (glue_tells (side_at z) (side_at n) x g) [
      | at_first p r ↦ absurd (let no : None ≡ Some y = sym free ∙ ap g (sym p) ∙ e in cc)
      | at_second k p r ↦ absurd (let t = P.had_turns x y e in let q = ap number p in let s = number-side_at n in omega arith)
      | elsewhere k l r ↦ r ∙ e
    ]

-- and in all turns after it
pub stays_paired : {faces : ℕ} {numbers : List ℕ} → AreTriangles faces numbers → (m n : ℕ) → n ≤ m → m ≤ 3 * faces → (x y : Side) → paired (same_in numbers) n x ≡ Some y → paired (same_in numbers) m x ≡ Some y
stays_paired {faces} {numbers} T zero n h k x y e = subst (λ (j : ℕ). paired (same_in numbers) j x ≡ Some y) (omega arith) e
stays_paired {faces} {numbers} T (suc m) n h k x y e = elim (cases_eq n (suc m)) [
  | inl q ↦ subst (λ (j : ℕ). paired (same_in numbers) j x ≡ Some y) q e
  | inr r ↦
      ap (λ (g : Gluing). g x) (paired-suc (same_in numbers) m)
      ∙ turn_keeps (pairs_are T m (omega arith)) x y (stays_paired T m n (omega arith) (omega arith) x y e)
]

-- a side that is free in the end was free at each turn
free_before : {faces : ℕ} {numbers : List ℕ} → AreTriangles faces numbers → (n : ℕ) → n ≤ 3 * faces → (x : Side) → paired (same_in numbers) (3 * faces) x ≡ None → paired (same_in numbers) n x ≡ None
free_before {faces} {numbers} T n h x e = elim (option_tells (paired (same_in numbers) n x)) [
  | inl q ↦ q
  | inr y ↦ absurd (let no : None ≡ Some y.0 = sym e ∙ stays_paired T (3 * faces) n h (omega arith) x y.0 y.1 in cc)
]

-- side y would have taken side x, or another one, in its turn
not_left : {faces : ℕ} {numbers : List ℕ} → AreTriangles faces numbers → (x y : Side) → y.face < faces → number x < number y →
    paired (same_in numbers) (3 * faces) x ≡ None → paired (same_in numbers) (3 * faces) y ≡ None → AreReversed numbers x y → ⊥
not_left {faces} {numbers} T x y w h e f R = elim (least_tells (is_choice (same_in numbers) before (side_at (number y))) (number y)) [
  | missing q k ↦ (let no : true ≡ false = sym choice ∙ k (number x) h in cc)
  | found z q I ↦ taken z q I.below
]
  where
    turns : number y < 3 * faces
    turns = number-lt y faces w

    before : Gluing
    before = paired (same_in numbers) (number y)

    choice : is_choice (same_in numbers) before (side_at (number y)) (number x) ≡ true
    choice =
        tells-choice numbers before (side_at (number y)) (number x) (ap before (side_at-number x) ∙ free_before T (number y) (let t = turns in omega arith) x e)
        (subst (λ (a : Side). AreReversed numbers a (side_at (number y))) (sym (side_at-number x)) (subst (AreReversed numbers x) (sym (side_at-number y)) R))

    glued : (z : ℕ) → z < number y → glue (side_at z) (side_at (number y)) before y ≡ Some (side_at z)
    glued z l = elim (glue_tells (side_at z) (side_at (number y)) y before) [
      | at_first p r ↦ absurd (let q = ap number p in let s = number-side_at z in omega arith)
      | at_second k p r ↦ r
      | elsewhere k m r ↦ absurd (m (sym (side_at-number y)))
    ]

    taken : (z : ℕ) → least (is_choice (same_in numbers) before (side_at (number y))) (number y) ≡ Some z → z < number y → ⊥
    taken z q l =
        let then : paired (same_in numbers) (suc (number y)) y ≡ Some (side_at z) =
        ap (λ (g : Gluing). g y) (paired-suc (same_in numbers) (number y) ∙ turn-some (same_in numbers) (number y) z before q) ∙ glued z l in
        let no : None ≡ Some (side_at z) = sym f ∙ stays_paired T (3 * faces) (suc (number y)) (let t = turns in omega arith) (omega arith) y (side_at z) then in cc

-- of the sides left free no two may be paired
pub none_left : {faces : ℕ} {numbers : List ℕ} → AreTriangles faces numbers → (x y : Side) → IsFree faces (paired (same_in numbers) (3 * faces)) x → IsFree faces (paired (same_in numbers) (3 * faces)) y → may_pair (same_in numbers) x y ≡ false
none_left {faces} {numbers} T x y F G = elim (cases_Bool (may_pair (same_in numbers) x y)) [
  | inr e ↦ e
  | inl e ↦ absurd (both (may_pair-tells numbers x y e))
]
  where
    both : AreReversed numbers x y → ⊥
    both R = elim (cases_lt (number x) (number y)) [
      | inl h ↦ not_left T x y G.within h F.free G.free R
      | inr h ↦ elim (cases_eq (number x) (number y)) [
        | inl e ↦ R.thirds (ap (position_in numbers) (number_injective x y e))
        | inr n ↦ not_left T y x F.within (omega arith) G.free F.free (reversed_sym x y R)
      ]
    ]
