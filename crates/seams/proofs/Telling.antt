-- The flags while they are written.
use Rattle.std.proofs.Common.{◌≡◌, ◌≢◌, ℕ, ◌+◌, ◌*◌, ◌<◌, Bool, true, false, cond, List, length, get_or, set, replicate, Option, Some, None, inl, inr, ap, sym, ◌∙◌, subst, arith}
use Rattle.std.proofs.lemmas.Bool.{cases_lt, cond-true, cond-false, false≢true}
use Rattle.std.proofs.lemmas.List.{get_or-set_same, get_or-set_other, length-set, length-replicate, get_or-replicate}
use Rattle.corner_table.specs.Sides.{Side, number, side_at, Gluing, IsGluing}
use Rattle.corner_table.proofs.Numbers.{side_at-number, number-side_at, number-lt}
use Rattle.corner_table.proofs.Places.{option_tells, Some_injective}
use Rattle.seams.specs.Seams.{flag_at, flags_listed}
use Rattle.corner_table.specs.Pairs.{has_bit}
use Rattle.seams.specs.SeamBits.{of_pairs}
use Rattle.seams.specs.Pairs.{TellsLater, AreToldTo}
use Rattle.seams.proofs.Listing.{listed-is}
use Rattle.seams.proofs.Bits.{one_has}

-- both sides of a pair
pub of_glued : (F : Side → Bool) (g : Gluing) (x y : Side) → g x ≡ Some y → of_pairs F g x ≡ F (cond (has_bit g x) x y)
of_glued F g x y e = ap (λ (o : Option Side). elim o [ None ↦ true | Some z ↦ F (cond (has_bit g x) x z) ]) e

pub of_free : (F : Side → Bool) (g : Gluing) (x : Side) → g x ≡ None → of_pairs F g x ≡ true
of_free F g x e = ap (λ (o : Option Side). elim o [ None ↦ true | Some z ↦ F (cond (has_bit g x) x z) ]) e

pub of_one : (F : Side → Bool) (g : Gluing) (x y : Side) → g x ≡ Some y → has_bit g x ≡ true → of_pairs F g x ≡ F x
of_one F g x y e b = of_glued F g x y e ∙ ap F (cond-true (has_bit g x) x y b)

pub of_other : (F : Side → Bool) (g : Gluing) (x y : Side) → g x ≡ Some y → has_bit g x ≡ false → of_pairs F g x ≡ F y
of_other F g x y e b = of_glued F g x y e ∙ ap F (cond-false (has_bit g x) x y b)

-- before the first side
pub told_none : (faces : ℕ) (g : Gluing) (F : Side → Bool) → AreToldTo faces g F 0 (replicate (3 * faces) true)
told_none faces g F = record {
  each_side = length-replicate (3 * faces) true;
  boundary = λ x h e. get_or-replicate (3 * faces) (number x) true true (number-lt x faces h);
  one = λ x y e b h. absurd (omega arith);
  other = λ x y e b h. absurd (omega arith);
}

is_number : (n : ℕ) (x : Side) → number x < n + 1 → (number x < n → ⊥) → x ≡ side_at n
is_number n x h unmet = sym (side_at-number x) ∙ ap side_at (elim (cases_lt (number x) n) [ inl l ↦ absurd (unmet l) | inr l ↦ (let e : number x ≡ n = omega arith in e) ])

-- a side that has no bit sets nothing
pub told_over : (faces : ℕ) (g : Gluing) (F : Side → Bool) (n : ℕ) (flags : List Bool) → AreToldTo faces g F n flags → has_bit g (side_at n) ≡ false → AreToldTo faces g F (n + 1) flags
told_over faces g F n flags A bare = record {
  each_side = A.each_side;
  boundary = A.boundary;
  one = λ x y e b h. A.one x y e b (before x b h);
  other = λ x y e b h. A.other x y e b (before x b h);
}
  where
    before : (x : Side) → has_bit g x ≡ true → number x < n + 1 → number x < n
    before x b h = elim (cases_lt (number x) n) [
      | inl l ↦ l
      | inr l ↦ (let e : number x ≡ n = omega arith in absurd (false≢true (sym bare ∙ ap (λ k. has_bit g (side_at k)) (sym e) ∙ ap (has_bit g) (side_at-number x) ∙ b)))
    ]

-- a side that has one sets the flags of both sides of its pair
pub told_more : (faces : ℕ) (g : Gluing) (F : Side → Bool) (n o : ℕ) (flag : Bool) (flags : List Bool) → IsGluing faces g → n < 3 * faces → AreToldTo faces g F n flags → TellsLater faces g n (Some o) → flag ≡ F (side_at n) →
    AreToldTo faces g F (n + 1) (set (set flags n flag) o flag)
told_more faces g F n o flag flags G small A T v = record {
  each_side = length-set (set flags n flag) o flag ∙ length-set flags n flag ∙ A.each_side;
  boundary = λ x h e. kept x (free_apart x (side_at n) (side_at o) e T.1) (free_apart x (side_at o) (side_at n) e across) ∙ A.boundary x h e;
  one = one;
  other = other;
}
  where
    long : length flags ≡ 3 * faces
    long = A.each_side

    across : g (side_at o) ≡ Some (side_at n)
    across = G.paired (side_at n) (side_at o) T.1

    free_apart : (x y z : Side) → g x ≡ None → g y ≡ Some z → x ≢ y
    free_apart x y z e f q = let no : None ≡ Some z = sym e ∙ ap g q ∙ f in cc

    numbers : (x : Side) (k : ℕ) → x ≢ side_at k → number x ≢ k
    numbers x k h e = h (sym (side_at-number x) ∙ ap side_at e)

    kept : (x : Side) → x ≢ side_at n → x ≢ side_at o → flag_at (set (set flags n flag) o flag) x ≡ flag_at flags x
    kept x h k = get_or-set_other (set flags n flag) o (number x) flag true (numbers x o k) ∙ get_or-set_other flags n (number x) flag true (numbers x n h)

    at_other : flag_at (set (set flags n flag) o flag) (side_at o) ≡ flag
    at_other =
        let inside : o < length (set flags n flag) = (let l = length-set flags n flag in let w = T.3 in omega arith) in
        ap (λ k. get_or (set (set flags n flag) o flag) k true) (number-side_at o) ∙ get_or-set_same (set flags n flag) o flag true inside

    at_one : flag_at (set (set flags n flag) o flag) (side_at n) ≡ flag
    at_one =
        let inside : n < length flags = omega arith in
        let differ : n ≢ o = λ e. (let w = T.2 in absurd (omega arith)) in
        ap (λ k. get_or (set (set flags n flag) o flag) k true) (number-side_at n) ∙ get_or-set_other (set flags n flag) o n flag true differ ∙ get_or-set_same flags n flag true inside

    before : (x : Side) → number x < n → (x ≢ side_at n) × (x ≢ side_at o)
    before x h = (
      (λ e. (let q = ap number e in let k = number-side_at n in absurd (omega arith))),
      (λ e. (let q = ap number e in let k = number-side_at o in let w = T.2 in absurd (omega arith))),
    )

    beside : (x y : Side) → g x ≡ Some y → number x < n → (y ≢ side_at n) × (y ≢ side_at o)
    beside x y e h =
        let b = before x h in
        let back = G.paired x y e in (
          (λ q. b.1 (Some_injective x (side_at o) (sym back ∙ ap g q ∙ T.1))),
          (λ q. b.0 (Some_injective x (side_at n) (sym back ∙ ap g q ∙ across))),
        )

    one : (x y : Side) → g x ≡ Some y → has_bit g x ≡ true → number x < n + 1 → flag_at (set (set flags n flag) o flag) x ≡ F x
    one x y e b h = elim (cases_lt (number x) n) [
      | inl l ↦ (let k = before x l in kept x k.0 k.1 ∙ A.one x y e b l)
      | inr l ↦ (let q : x ≡ side_at n = is_number n x h (λ m. absurd (omega arith)) in ap (flag_at (set (set flags n flag) o flag)) q ∙ at_one ∙ v ∙ ap F (sym q))
    ]

    other : (x y : Side) → g x ≡ Some y → has_bit g x ≡ true → number x < n + 1 → flag_at (set (set flags n flag) o flag) y ≡ F x
    other x y e b h = elim (cases_lt (number x) n) [
      | inl l ↦ (let k = beside x y e l in kept y k.0 k.1 ∙ A.other x y e b l)
      | inr l ↦ (
          let q : x ≡ side_at n = is_number n x h (λ m. absurd (omega arith)) in
          let r : y ≡ side_at o = Some_injective y (side_at o) (sym e ∙ ap g q ∙ T.1) in
          ap (flag_at (set (set flags n flag) o flag)) r ∙ at_other ∙ v ∙ ap F (sym q))
    ]

-- after the last side all are set
pub told_all : (faces : ℕ) (g : Gluing) (F : Side → Bool) (flags : List Bool) → IsGluing faces g → AreToldTo faces g F (3 * faces) flags → flags ≡ flags_listed faces (of_pairs F g)
told_all faces g F flags G A = listed-is faces flags (of_pairs F g) A.each_side each
  where
    each : (x : Side) → x.face < faces → flag_at flags x ≡ of_pairs F g x
    each x h = elim (option_tells (g x)) [
      | inl e ↦ A.boundary x h e ∙ sym (of_free F g x e)
      | inr y ↦ elim (one_has G x y.0 y.1) [
        | inl b ↦ A.one x y.0 y.1 b.0 (number-lt x faces h) ∙ sym (of_one F g x y.0 y.1 b.0)
        | inr b ↦ (
            let back = G.paired x y.0 y.1 in
            let w = number-lt y.0 faces (G.within y.0 x back) in
            A.other y.0 x back b.1 w ∙ sym (of_other F g x y.0 y.1 b.0))
      ]
    ]

pub told_end : (faces n : ℕ) (g : Gluing) (F : Side → Bool) (flags : List Bool) → IsGluing faces g → n ≡ 3 * faces → AreToldTo faces g F n flags → flags ≡ flags_listed faces (of_pairs F g)
told_end faces n g F flags G e A = told_all faces g F flags G (subst (λ k. AreToldTo faces g F k flags) e A)

pub told_start : (faces : ℕ) (g : Gluing) (F : Side → Bool) (flags : List Bool) → flags ≡ replicate (3 * faces) true → AreToldTo faces g F 0 flags
told_start faces g F flags e = subst (AreToldTo faces g F 0) (sym e) (told_none faces g F)
