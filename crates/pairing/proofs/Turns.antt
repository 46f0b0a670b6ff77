-- The turns of sides, by numbers of positions: what each pair is made of.
use Rattle.std.proofs.Common.{◌≡◌, ◌≢◌, ℕ, zero, suc, ◌*◌, ◌<◌, ◌≤◌, Bool, true, false, not, ◌&&◌, List, Option, Some, None, ◌⊎◌, inl, inr, sym, refl, ap, ◌∙◌, subst, arith, eqb-true}
use Rattle.std.specs.Option.{is_some}
use Rattle.std.proofs.lemmas.Bool.{and_parts, eq-eqb, eqb-false, ne_eqb}
use Rattle.corner_table.specs.Sides.{Side, Place, first, second, third, place_after, place_before, next, prev, side, side_at, number, Gluing, unglued, glue, IsGluing, IsFree}
use Rattle.corner_table.proofs.Places.{option_tells, Some_injective, prev-next, next-next, glue_tells, at_first, at_second, elsewhere}
use Rattle.corner_table.proofs.Numbers.{number-side_at, face-lt}
use Rattle.corner_table.proofs.Gluings.{unglued_is, glued_is}
use Rattle.pairing.specs.Pairing.{may_pair, least, is_choice, turn_of, paired}
use Rattle.pairing.specs.Positions.{position_in, same_in, AreTriangles}
use Rattle.pairing.proofs.Least.{found, missing, least_tells, least_congr}

-- the ends of two sides are the same positions, reversed, and their third positions differ
pub record AreReversed (numbers : List ℕ) (x y : Side) : Type 0 where
  pub starts : position_in numbers (next x) ≡ position_in numbers (prev y)
  pub ends : position_in numbers (prev x) ≡ position_in numbers (next y)
  pub thirds : position_in numbers x ≢ position_in numbers y

not-true : (b : Bool) → not b ≡ true → b ≡ false
not-true true e = absurd (cc)
not-true false e = refl

not-false : (b : Bool) → b ≡ false → not b ≡ true
not-false b e = ap not e

and_true : (a b : Bool) → a ≡ true → b ≡ true → (a && b) ≡ true
and_true true b p q = q
and_true false b p q = absurd (cc)

pub may_pair-tells : (numbers : List ℕ) (x y : Side) → may_pair (same_in numbers) x y ≡ true → AreReversed numbers x y
may_pair-tells numbers x y e =
    let a = and_parts (same_in numbers (next x) (prev y) && same_in numbers (prev x) (next y)) (not (same_in numbers x y)) e in
    let b = and_parts (same_in numbers (next x) (prev y)) (same_in numbers (prev x) (next y)) a.0 in
    record {
      starts = eqb-true (position_in numbers (next x)) (position_in numbers (prev y)) b.0;
      ends = eqb-true (position_in numbers (prev x)) (position_in numbers (next y)) b.1;
      thirds = eqb-false (position_in numbers x) (position_in numbers y) (not-true (same_in numbers x y) a.1);
    }

pub tells-may_pair : (numbers : List ℕ) (x y : Side) → AreReversed numbers x y → may_pair (same_in numbers) x y ≡ true
tells-may_pair numbers x y R =
    and_true _ _ (and_true _ _ (eq-eqb _ _ R.starts) (eq-eqb _ _ R.ends)) (not-false _ (ne_eqb _ _ R.thirds))

is_some-free : (o : Option Side) → not (is_some o) ≡ true → o ≡ None
is_some-free None e = refl
is_some-free (Some x) e = absurd (cc)

free-is_some : (o : Option Side) → o ≡ None → not (is_some o) ≡ true
free-is_some o e = ap (λ (p : Option Side). not (is_some p)) e

-- a choice is free and reversed
pub choice-tells : (numbers : List ℕ) (g : Gluing) (y : Side) (x : ℕ) → is_choice (same_in numbers) g y x ≡ true → (g (side_at x) ≡ None) × AreReversed numbers (side_at x) y
choice-tells numbers g y x e =
    let a = and_parts (not (is_some (g (side_at x)))) (may_pair (same_in numbers) (side_at x) y) e in
    (is_some-free (g (side_at x)) a.0, may_pair-tells numbers (side_at x) y a.1)

pub tells-choice : (numbers : List ℕ) (g : Gluing) (y : Side) (x : ℕ) → g (side_at x) ≡ None → AreReversed numbers (side_at x) y → is_choice (same_in numbers) g y x ≡ true
tells-choice numbers g y x f R = and_true _ _ (free-is_some (g (side_at x)) f) (tells-may_pair numbers (side_at x) y R)

-- a turn
pub turn-none : (one_position : Side → Side → Bool) (n : ℕ) (g : Gluing) → least (is_choice one_position g (side_at n)) n ≡ None → turn_of one_position n g ≡ g
turn-none one_position n g e = ap (λ (o : Option ℕ). elim o [ None ↦ g | Some x ↦ glue (side_at x) (side_at n) g ]) e

pub turn-some : (one_position : Side → Side → Bool) (n x : ℕ) (g : Gluing) → least (is_choice one_position g (side_at n)) n ≡ Some x → turn_of one_position n g ≡ glue (side_at x) (side_at n) g
turn-some one_position n x g e = ap (λ (o : Option ℕ). elim o [ None ↦ g | Some x ↦ glue (side_at x) (side_at n) g ]) e

pub paired-zero : (one_position : Side → Side → Bool) → paired one_position zero ≡ unglued
unfolding paired
paired-zero one_position = refl

pub paired-suc : (one_position : Side → Side → Bool) (n : ℕ) → paired one_position (suc n) ≡ turn_of one_position n (paired one_position n)
unfolding paired
paired-suc one_position n = refl

place_cases : (j k : Place) → (k ≡ j) ⊎ ((k ≡ place_after j) ⊎ (k ≡ place_before j))
place_cases first first = inl refl
place_cases first second = inr (inl refl)
place_cases first third = inr (inr refl)
place_cases second first = inr (inr refl)
place_cases second second = inl refl
place_cases second third = inr (inl refl)
place_cases third first = inr (inl refl)
place_cases third second = inr (inr refl)
place_cases third third = inl refl

-- the sides of one face
face_cases : (x y : Side) → x.face ≡ y.face → (y ≡ x) ⊎ ((y ≡ next x) ⊎ (y ≡ prev x))
face_cases x y e =
    let here : y ≡ side x.face y.place = ap (λ (n : ℕ). side n y.place) (sym e) in
    elim (place_cases x.place y.place) [
      | inl p ↦ inl (here ∙ ap (side x.face) p)
      | inr q ↦ elim q [
        | inl p ↦ inr (inl (here ∙ ap (side x.face) p))
        | inr p ↦ inr (inr (here ∙ ap (side x.face) p))
      ]
    ]

-- sides of one face aren't reversed to each other
pub reversed_apart : {faces : ℕ} {numbers : List ℕ} → AreTriangles faces numbers → (x y : Side) → x.face < faces → AreReversed numbers x y → x.face ≢ y.face
reversed_apart {faces} {numbers} T x y h R e = elim (face_cases x y e) [
  | inl p ↦ T.apart (next x) h (R.starts ∙ ap (λ (s : Side). position_in numbers (prev s)) p ∙ ap (position_in numbers) (sym (next-next x)))
  | inr q ↦ elim q [
    | inl p ↦ T.apart x h (sym (R.starts ∙ ap (λ (s : Side). position_in numbers (prev s)) p ∙ ap (position_in numbers) (prev-next x)))
    | inr p ↦ T.apart (prev x) h (R.ends ∙ ap (λ (s : Side). position_in numbers (next s)) p)
  ]
]

pub reversed_sym : {numbers : List ℕ} (x y : Side) → AreReversed numbers x y → AreReversed numbers y x
reversed_sym x y R = record { starts = sym R.ends; ends = sym R.starts; thirds = λ e. R.thirds (sym e) }

-- the pairs after the turns of the first n sides
pub record ArePairs (faces : ℕ) (numbers : List ℕ) (n : ℕ) (g : Gluing) : Type 0 where
  pub gluing : IsGluing faces g
  pub had_turns : (x y : Side) → g x ≡ Some y → number x < n
  pub reversed : (x y : Side) → g x ≡ Some y → AreReversed numbers x y

-- a side that hasn't had its turn is free
free_still : {faces : ℕ} {numbers : List ℕ} {n : ℕ} {g : Gluing} → ArePairs faces numbers n g → (z : ℕ) → n ≤ z → z < 3 * faces → IsFree faces g (side_at z)
free_still {faces} {g = g} P z h k = record {
  within = face-lt z faces k;
  free = elim (option_tells (g (side_at z))) [ inl e ↦ e | inr y ↦ absurd (let t = P.had_turns (side_at z) y.0 y.1 in let q = number-side_at z in omega arith) ];
}

-- what side n may take
pub record MayTake (faces : ℕ) (numbers : List ℕ) (n x : ℕ) (g : Gluing) : Type 0 where
  pub earlier : x < n
  pub within : n < 3 * faces
  pub free : g (side_at x) ≡ None
  pub reversed : AreReversed numbers (side_at x) (side_at n)

pub earlier_free : {faces : ℕ} {numbers : List ℕ} {n x : ℕ} {g : Gluing} → MayTake faces numbers n x g → IsFree faces g (side_at x)
earlier_free {faces} {x = x} M = record { within = face-lt x faces (let e = M.earlier in let w = M.within in omega arith); free = M.free }

faces_apart : {faces : ℕ} {numbers : List ℕ} {n x : ℕ} {g : Gluing} → AreTriangles faces numbers → MayTake faces numbers n x g → (side_at x).face ≢ (side_at n).face
faces_apart {faces} {n = n} {x = x} T M =
    reversed_apart T (side_at x) (side_at n) (face-lt x faces (let e = M.earlier in let w = M.within in omega arith)) M.reversed

pub pairs_taken : {faces : ℕ} {numbers : List ℕ} {n x : ℕ} {g : Gluing} → AreTriangles faces numbers → ArePairs faces numbers n g → MayTake faces numbers n x g → ArePairs faces numbers (suc n) (glue (side_at x) (side_at n) g)
pairs_taken {faces} {numbers} {n} {x} {g} T P M = record {
  gluing = glued_is (side_at x) (side_at n) P.gluing (earlier_free M) (free_still P n (omega arith) M.within) (faces_apart T M);
  had_turns = had_turns;
  reversed = reversed;
}
  where
    had_turns : (a b : Side) → glue (side_at x) (side_at n) g a ≡ Some b → number a < suc n
    had_turns a b e = elim (glue_tells (side_at x) (side_at n) a g) [
      | at_first p q ↦ (let l = M.earlier in let s = number-side_at x in let t = ap number p in omega arith)
      | at_second k p q ↦ (let s = number-side_at n in let t = ap number p in omega arith)
      | elsewhere k l q ↦ (let t = P.had_turns a b (sym q ∙ e) in omega arith)
    ]

    reversed : (a b : Side) → glue (side_at x) (side_at n) g a ≡ Some b → AreReversed numbers a b
    reversed a b e = elim (glue_tells (side_at x) (side_at n) a g) [
      | at_first p q ↦
          subst (λ (s : Side). AreReversed numbers s b) (sym p)
          (subst (AreReversed numbers (side_at x)) (Some_injective (side_at n) b (sym q ∙ e)) M.reversed)
      | at_second k p q ↦
          subst (λ (s : Side). AreReversed numbers s b) (sym p)
          (subst (AreReversed numbers (side_at n)) (Some_injective (side_at x) b (sym q ∙ e)) (reversed_sym (side_at x) (side_at n) M.reversed))
      | elsewhere k l q ↦ P.reversed a b (sym q ∙ e)
    ]

pub pairs_more : {faces : ℕ} {numbers : List ℕ} {n : ℕ} {g : Gluing} → ArePairs faces numbers n g → ArePairs faces numbers (suc n) g
pairs_more P = record { gluing = P.gluing; had_turns = λ x y e. (let t = P.had_turns x y e in omega arith); reversed = P.reversed }

turn_pairs : {faces : ℕ} {numbers : List ℕ} {n : ℕ} {g : Gluing} → AreTriangles faces numbers → n < 3 * faces → ArePairs faces numbers n g → ArePairs faces numbers (suc n) (turn_of (same_in numbers) n g)
turn_pairs {faces} {numbers} {n} {g} T h P = elim (least_tells (is_choice (same_in numbers) g (side_at n)) n) [
  | missing e k ↦ subst (ArePairs faces numbers (suc n)) (sym (turn-none (same_in numbers) n g e)) (pairs_more P)
  | found x e I ↦ (
      let c = choice-tells numbers g (side_at n) x I.passes_it in
      subst (ArePairs faces numbers (suc n)) (sym (turn-some (same_in numbers) n x g e))
      (pairs_taken T P (record { earlier = I.below; within = h; free = c.0; reversed = c.1 })))
]

pub pairs_are : {faces : ℕ} {numbers : List ℕ} → AreTriangles faces numbers → (n : ℕ) → n ≤ 3 * faces → ArePairs faces numbers n (paired (same_in numbers) n)
pairs_are {faces} {numbers} T zero h =
    subst (ArePairs faces numbers zero) (sym (paired-zero (same_in numbers))) (record {
      gluing = unglued_is faces;
      had_turns = λ x y e. absurd (let no : None ≡ Some y = e in cc);
      reversed = λ x y e. absurd (let no : None ≡ Some y = e in cc);
    })
pairs_are {faces} {numbers} T (suc n) h =
    subst (ArePairs faces numbers (suc n)) (sym (paired-suc (same_in numbers) n)) (turn_pairs T (omega arith) (pairs_are T n (omega arith)))

-- tests that agree on the corners of the faces give one gluing
abbrev pub Agree : ℕ → (Side → Side → Bool) → (Side → Side → Bool) → Type 0
Agree faces s t = (c d : Side) → c.face < faces → d.face < faces → s c d ≡ t c d

turn-congr : {faces : ℕ} {s t : Side → Side → Bool} → Agree faces s t → (n : ℕ) → n < 3 * faces → (g : Gluing) → turn_of s n g ≡ turn_of t n g
turn-congr {faces} {s} {t} A n h g =
    ap (λ (o : Option ℕ). elim o [ None ↦ g | Some x ↦ glue (side_at x) (side_at n) g ]) (least_congr (is_choice s g (side_at n)) (is_choice t g (side_at n)) n choices)
  where
    choices : (j : ℕ) → j < n → is_choice s g (side_at n) j ≡ is_choice t g (side_at n) j
    choices j l =
        let y = face-lt n faces h in
        let x = face-lt j faces (omega arith) in
        ap (λ (b : Bool). not (is_some (g (side_at j))) && (b && s (prev (side_at j)) (next (side_at n)) && not (s (side_at j) (side_at n)))) (A (next (side_at j)) (prev (side_at n)) x y)
        ∙ ap (λ (b : Bool). not (is_some (g (side_at j))) && (t (next (side_at j)) (prev (side_at n)) && b && not (s (side_at j) (side_at n)))) (A (prev (side_at j)) (next (side_at n)) x y)
        ∙ ap (λ (b : Bool). not (is_some (g (side_at j))) && (t (next (side_at j)) (prev (side_at n)) && t (prev (side_at j)) (next (side_at n)) && not b)) (A (side_at j) (side_at n) x y)

pub paired-congr : {faces : ℕ} {s t : Side → Side → Bool} → Agree faces s t → (n : ℕ) → n ≤ 3 * faces → paired s n ≡ paired t n
paired-congr {faces} {s} {t} A zero h = paired-zero s ∙ sym (paired-zero t)
paired-congr {faces} {s} {t} A (suc n) h =
    paired-suc s n ∙ ap (turn_of s n) (paired-congr A n (omega arith)) ∙ turn-congr A n (omega arith) (paired t n) ∙ sym (paired-suc t n)
