-- A renumbering carries sides one to one, and with them pairs, fans and the boundary.
use Rattle.std.proofs.Common.{◌≡◌, ◌≢◌, ℕ, zero, suc, ◌<◌, ◌≤◌, ◌↔◌, cond, eqb, List, get_or, Some, None, ◌⊎◌, inl, inr, sym, refl, ap, ◌∙◌, subst, arith}
use Rattle.std.proofs.lemmas.Bool.{cond-true, cond-false, cases_eq, eq-eqb, ne_eqb}
use Rattle.corner_table.specs.Sides.{Side, Place, side, next, prev, place_after, place_before, Gluing, IsGluing, IsFree}
use Rattle.corner_table.specs.Fans.{swing_left, swing_right, InFan, here, leftwards, rightwards, Follows, side_after, side_before, HasThreeFans, IsProper}
use Rattle.corner_table.specs.Carried.{turned, carry, IsRenumbering, IsCarried}
use Rattle.corner_table.proofs.Places.{option_tells, after-before, before-after}
use Rattle.corner_table.proofs.Numbers.{no_room}
use Rattle.corner_table.proofs.Walks.{left_crosses, right_crosses, crosses-left, crosses-right, left-within, right-within}
use Rattle.corner_table.proofs.Boundary.{side_after-follows, side_after_only, side_before-follows, side_before_only}

pub turned-after : (k : ℕ) (p : Place) → turned k (place_after p) ≡ place_after (turned k p)
turned-after zero p = refl
turned-after (suc k) p = ap place_after (turned-after k p)

pub turned-before : (k : ℕ) (p : Place) → turned k (place_before p) ≡ place_before (turned k p)
turned-before zero p = refl
turned-before (suc k) p =
    ap place_after (turned-before k p) ∙ after-before (turned k p) ∙ sym (before-after (turned k p))

turned_injective : (k : ℕ) (p q : Place) → turned k p ≡ turned k q → p ≡ q
turned_injective zero p q e = e
turned_injective (suc k) p q e =
    turned_injective k p q (sym (before-after (turned k p)) ∙ ap place_before e ∙ before-after (turned k q))

-- the place that is turned to p
turned_back : ℕ → Place → Place
turned_back zero p = p
turned_back (suc k) p = turned_back k (place_before p)

turned-turned_back : (k : ℕ) (p : Place) → turned k (turned_back k p) ≡ p
unfolding turned_back
turned-turned_back zero p = refl
turned-turned_back (suc k) p = ap place_after (turned-turned_back k (place_before p)) ∙ after-before p

-- whether one of the first n numbers of f is v
is_met : (n : ℕ) (f : ℕ → ℕ) (v : ℕ) → ((i : ℕ) × (i < n) × (f i ≡ v)) ⊎ ((i : ℕ) → i < n → f i ≢ v)
is_met zero f v = inr (λ i h. absurd (omega arith))
is_met (suc n) f v = elim (cases_eq (f n) v) [
  | inl e ↦ inl (n, omega arith, e)
  | inr m ↦ elim (is_met n f v) [
    | inl t ↦ inl (t.0, (let l = t.1 in omega arith), t.2)
    | inr u ↦ inr (λ i h. elim (cases_eq i n) [
      | inl e ↦ λ q. m (sym (ap f e) ∙ q)
      | inr k ↦ u i (omega arith)
    ])
  ]
]

-- the value v at n
abbrev with_value : ℕ → ℕ → (ℕ → ℕ) → ℕ → ℕ
with_value n v f i = cond (eqb i n) v (f i)

-- n numbers below n, no two of them equal, are all numbers below n
pub all_met : (n : ℕ) (f : ℕ → ℕ) → ((i : ℕ) → i < n → f i < n) → ((i j : ℕ) → i < n → j < n → f i ≡ f j → i ≡ j) → (v : ℕ) → v < n → (i : ℕ) × (i < n) × (f i ≡ v)
all_met n f small apart v h = elim (is_met n f v) [ inl t ↦ t | inr u ↦ absurd (no_room n (with_value n v f) below (distinct u)) ]
  where
    at_last : (i : ℕ) → i ≡ n → with_value n v f i ≡ v
    at_last i e = cond-true (eqb i n) v (f i) (eq-eqb i n e)

    at_others : (i : ℕ) → i ≢ n → with_value n v f i ≡ f i
    at_others i m = cond-false (eqb i n) v (f i) (ne_eqb i n m)

    below : (i : ℕ) → i ≤ n → with_value n v f i < n
    below i l = elim (cases_eq i n) [
      | inl e ↦ let q = at_last i e in omega arith
      | inr m ↦ let q = at_others i m in let s = small i (omega arith) in omega arith
    ]

    distinct : ((i : ℕ) → i < n → f i ≢ v) → (i j : ℕ) → i ≤ n → j ≤ n → with_value n v f i ≡ with_value n v f j → i ≡ j
    distinct u i j k l e = elim (cases_eq i n) [
      | inl p ↦ elim (cases_eq j n) [
        | inl q ↦ p ∙ sym q
        | inr q ↦ absurd (u j (omega arith) (sym (at_others j q) ∙ sym e ∙ at_last i p))
      ]
      | inr p ↦ elim (cases_eq j n) [
        | inl q ↦ absurd (u i (omega arith) (sym (at_others i p) ∙ e ∙ at_last j q))
        | inr q ↦ apart i j (omega arith) (omega arith) (sym (at_others i p) ∙ e ∙ at_others j q)
      ]
    ]

pub carry-next : (rows : List (ℕ × ℕ)) (x : Side) → carry rows (next x) ≡ next (carry rows x)
carry-next rows x =
    ap (side (get_or rows x.face (0, 0)).0) (turned-after (get_or rows x.face (0, 0)).1 x.place)

pub carry-prev : (rows : List (ℕ × ℕ)) (x : Side) → carry rows (prev x) ≡ prev (carry rows x)
carry-prev rows x =
    ap (side (get_or rows x.face (0, 0)).0) (turned-before (get_or rows x.face (0, 0)).1 x.place)

pub carry-within : {faces : ℕ} {rows : List (ℕ × ℕ)} → IsRenumbering faces rows → (x : Side) → x.face < faces → (carry rows x).face < faces
carry-within R x h = R.within x.face h

pub carry_injective : {faces : ℕ} {rows : List (ℕ × ℕ)} → IsRenumbering faces rows → (x y : Side) → x.face < faces → y.face < faces → carry rows x ≡ carry rows y → x ≡ y
carry_injective {faces} {rows} R x y h k e =
    let f : x.face ≡ y.face = R.apart x.face y.face h k (ap (λ (s : Side). s.face) e) in
    let t : turned (get_or rows y.face (0, 0)).1 x.place ≡ turned (get_or rows y.face (0, 0)).1 y.place =
    ap (λ (n : ℕ). turned (get_or rows n (0, 0)).1 x.place) (sym f) ∙ ap (λ (s : Side). s.place) e in
    ap (λ (n : ℕ). side n x.place) f ∙ ap (side y.face) (turned_injective (get_or rows y.face (0, 0)).1 x.place y.place t)

-- each side is carried from one
pub carry_onto : {faces : ℕ} {rows : List (ℕ × ℕ)} → IsRenumbering faces rows → (y : Side) → y.face < faces → (x : Side) × (x.face < faces) × (carry rows x ≡ y)
carry_onto {faces} {rows} R y h =
    let t = all_met faces (λ i. (get_or rows i (0, 0)).0) R.within R.apart y.face h in (
      side t.0 (turned_back (get_or rows t.0 (0, 0)).1 y.place),
      t.1,
      ap (λ (n : ℕ). side n (turned (get_or rows t.0 (0, 0)).1 (turned_back (get_or rows t.0 (0, 0)).1 y.place))) t.2
          ∙ ap (side y.face) (turned-turned_back (get_or rows t.0 (0, 0)).1 y.place),
    )

-- pairs
pub carried_gluing : {faces : ℕ} {g h : Gluing} {rows : List (ℕ × ℕ)} → IsGluing faces g → IsCarried faces g rows h → IsGluing faces h
carried_gluing {faces} {g} {h} {rows} G C = record {
  paired = λ x y e. (let w = C.within x y e in (C.pairs y x w.1 w.0).1 (G.paired (carry rows x) (carry rows y) ((C.pairs x y w.0 w.1).0 e)));
  within = λ x y e. (C.within x y e).0;
  apart = λ x y e f. (let w = C.within x y e in G.apart (carry rows x) (carry rows y) ((C.pairs x y w.0 w.1).0 e) (ap (λ (n : ℕ). (get_or rows n (0, 0)).0) f));
}

-- swings and fans
carried_left : {faces : ℕ} {g h : Gluing} {rows : List (ℕ × ℕ)} → IsCarried faces g rows h → (c d : Side) → swing_left h c ≡ Some d → swing_left g (carry rows c) ≡ Some (carry rows d)
carried_left {faces} {g} {h} {rows} C c d e =
    let q = left_crosses h c d e in
    let w = C.within (next c) (prev d) q in
    crosses-left g (carry rows c) (carry rows d) (ap g (sym (carry-next rows c)) ∙ (C.pairs (next c) (prev d) w.0 w.1).0 q ∙ ap {A = Side} Some (carry-prev rows d))

carried_right : {faces : ℕ} {g h : Gluing} {rows : List (ℕ × ℕ)} → IsCarried faces g rows h → (c d : Side) → swing_right h c ≡ Some d → swing_right g (carry rows c) ≡ Some (carry rows d)
carried_right {faces} {g} {h} {rows} C c d e =
    let q = right_crosses h c d e in
    let w = C.within (prev c) (next d) q in
    crosses-right g (carry rows c) (carry rows d) (ap g (sym (carry-prev rows c)) ∙ (C.pairs (prev c) (next d) w.0 w.1).0 q ∙ ap {A = Side} Some (carry-next rows d))

left_from_carried : {faces : ℕ} {g h : Gluing} {rows : List (ℕ × ℕ)} → IsCarried faces g rows h → (c d : Side) → c.face < faces → d.face < faces → swing_left g (carry rows c) ≡ Some (carry rows d) → swing_left h c ≡ Some d
left_from_carried {faces} {g} {h} {rows} C c d k l e =
    crosses-left h c d ((C.pairs (next c) (prev d) k l).1 (ap g (carry-next rows c) ∙ left_crosses g (carry rows c) (carry rows d) e ∙ ap {A = Side} Some (sym (carry-prev rows d))))

right_from_carried : {faces : ℕ} {g h : Gluing} {rows : List (ℕ × ℕ)} → IsCarried faces g rows h → (c d : Side) → c.face < faces → d.face < faces → swing_right g (carry rows c) ≡ Some (carry rows d) → swing_right h c ≡ Some d
right_from_carried {faces} {g} {h} {rows} C c d k l e =
    crosses-right h c d ((C.pairs (prev c) (next d) k l).1 (ap g (carry-prev rows c) ∙ right_crosses g (carry rows c) (carry rows d) e ∙ ap {A = Side} Some (sym (carry-next rows d))))

pub fan_carried : {faces : ℕ} {g h : Gluing} {rows : List (ℕ × ℕ)} → IsCarried faces g rows h → {c d : Side} → InFan h c d → InFan g (carry rows c) (carry rows d)
fan_carried C here = here
fan_carried C (leftwards {c = c} {d = x} s p) = leftwards (carried_left C c x s) (fan_carried C p)
fan_carried C (rightwards {c = c} {d = x} s p) = rightwards (carried_right C c x s) (fan_carried C p)

-- a chain of swings from a carried corner is carried from one
fan_from : {faces : ℕ} {g h : Gluing} {rows : List (ℕ × ℕ)} → IsGluing faces g → IsRenumbering faces rows → IsCarried faces g rows h → {a b : Side} → InFan g a b → (c d : Side) → c.face < faces → d.face < faces → carry rows c ≡ a → carry rows d ≡ b → InFan h c d
fan_from {h = h} G R C here c d k l p q = subst (InFan h c) (carry_injective R c d k l (p ∙ sym q)) here
fan_from {g = g} {h = h} {rows = rows} G R C (leftwards {c = a} {d = e} s f) c d k l p q =
    let z = carry_onto R e (left-within G a e s) in
    let t : swing_left h c ≡ Some z.0 = left_from_carried C c z.0 k z.1 (ap (swing_left g) p ∙ s ∙ ap {A = Side} Some (sym z.2)) in
    leftwards t (fan_from G R C f z.0 d z.1 l z.2 q)
fan_from {g = g} {h = h} {rows = rows} G R C (rightwards {c = a} {d = e} s f) c d k l p q =
    let z = carry_onto R e (right-within G a e s) in
    let t : swing_right h c ≡ Some z.0 = right_from_carried C c z.0 k z.1 (ap (swing_right g) p ∙ s ∙ ap {A = Side} Some (sym z.2)) in
    rightwards t (fan_from G R C f z.0 d z.1 l z.2 q)

-- fans are carried: two corners meet exactly where the corners that they were met
pub fans_carried : {faces : ℕ} {g h : Gluing} {rows : List (ℕ × ℕ)} → IsGluing faces g → IsRenumbering faces rows → IsCarried faces g rows h → (c d : Side) → c.face < faces → d.face < faces → InFan h c d ↔ InFan g (carry rows c) (carry rows d)
fans_carried G R C c d k l = (λ p. fan_carried C p, λ p. fan_from G R C p c d k l refl refl)

-- three fans to a face, and proper surfaces, are carried
pub three_fans_carried : {faces : ℕ} {g h : Gluing} {rows : List (ℕ × ℕ)} → IsRenumbering faces rows → IsCarried faces g rows h → HasThreeFans faces g → HasThreeFans faces h
three_fans_carried {g = g} {rows = rows} R C T = record {
  at_next = λ c k p. T.at_next (carry rows c) (carry-within R c k) (subst (λ (z : Side). InFan g (carry rows c) z) (carry-next rows c) (fan_carried C p));
}

pub proper_carried : {faces : ℕ} {g h : Gluing} {rows : List (ℕ × ℕ)} → IsRenumbering faces rows → IsCarried faces g rows h → IsProper faces g → IsProper faces h
proper_carried {rows = rows} R C P = record {
  gluing = carried_gluing P.gluing C;
  three_fans = three_fans_carried R C P.three_fans;
  opposite = λ x y e p. (let w = C.within x y e in P.opposite (carry rows x) (carry rows y) ((C.pairs x y w.0 w.1).0 e) (fan_carried C p));
}

-- free sides
pub free_carried : {faces : ℕ} {g h : Gluing} {rows : List (ℕ × ℕ)} → IsGluing faces g → IsRenumbering faces rows → IsCarried faces g rows h → (x : Side) → IsFree faces h x → IsFree faces g (carry rows x)
free_carried {faces} {g} {h} {rows} G R C x X = record {
  within = carry-within R x X.within;
  free = elim (option_tells (g (carry rows x))) [
    | inl n ↦ n
    | inr y ↦ (
        let z = carry_onto R y.0 (G.within y.0 (carry rows x) (G.paired (carry rows x) y.0 y.1)) in
        let e : h x ≡ Some z.0 = (C.pairs x z.0 X.within z.1).1 (y.1 ∙ ap {A = Side} Some (sym z.2)) in
        absurd (let no : None ≡ Some z.0 = sym X.free ∙ e in cc))
  ];
}

-- the boundary
pub follows_carried : {faces : ℕ} {g h : Gluing} {rows : List (ℕ × ℕ)} → IsGluing faces g → IsRenumbering faces rows → IsCarried faces g rows h → (x y : Side) → Follows faces h x y → Follows faces g (carry rows x) (carry rows y)
follows_carried {faces} {g} {h} {rows} G R C x y F = record {
  free = free_carried G R C y F.free;
  meets = subst (λ (z : Side). InFan g z (next (carry rows y))) (carry-prev rows x) (subst (λ (z : Side). InFan g (carry rows (prev x)) z) (carry-next rows y) (fan_carried C F.meets));
}

pub after_carried : {faces : ℕ} {g h : Gluing} {rows : List (ℕ × ℕ)} → IsGluing faces g → IsRenumbering faces rows → IsCarried faces g rows h → (x : Side) → IsFree faces h x → carry rows (side_after faces h x) ≡ side_after faces g (carry rows x)
after_carried {faces} {g} {h} {rows} G R C x X =
    side_after_only G (carry rows x) (carry rows (side_after faces h x)) (free_carried G R C x X) (follows_carried G R C x (side_after faces h x) (side_after-follows (carried_gluing G C) x X))

pub before_carried : {faces : ℕ} {g h : Gluing} {rows : List (ℕ × ℕ)} → IsGluing faces g → IsRenumbering faces rows → IsCarried faces g rows h → (x : Side) → IsFree faces h x → carry rows (side_before faces h x) ≡ side_before faces g (carry rows x)
before_carried {faces} {g} {h} {rows} G R C x X =
    let f = side_before-follows (carried_gluing G C) x X in
    side_before_only G (carry rows (side_before faces h x)) (carry rows x) (free_carried G R C (side_before faces h x) f.0) (follows_carried G R C (side_before faces h x) x f.1)
