-- A fan without ends is a ring: swings to the left lead from a corner back to it, over all the others.
use Rattle.std.proofs.Common.{◌≡◌, ◌≢◌, ℕ, zero, suc, ◌+◌, ◌*◌, ◌<◌, ◌≤◌, Option, Some, None, ◌⊎◌, inl, inr, sym, refl, ap, ◌∙◌, subst, arith}
use Rattle.std.proofs.lemmas.Bool.{cases_eq, cases_order}
use Rattle.corner_table.specs.Sides.{Side, next, prev, number, Gluing, IsGluing}
use Rattle.corner_table.specs.Fans.{swing_left, swing_right, InFan, here, leftwards, rightwards, left_by, right_by}
use Rattle.corner_table.proofs.Places.{option_tells, Some_injective, same_tells}
use Rattle.corner_table.proofs.Numbers.{number-lt, number_injective, no_room}
use Rattle.corner_table.proofs.Walks.{left_crosses, left_by-zero, right_by-zero, left_none, left_more, right_more, left_split, right_split, left_last, left_back, left_by-fan, left_then_right, fan_trans, to_leftmost}
use Rattle.corner_table.proofs.Boundary.{left_by-within, right_passed, right_short}

-- swings to the left lead from c to d, over corners of which P holds
pub data Through (g : Gluing) (P : Side → Type 0) : Side → Side → Type 0 where
  at : {c : Side} → P c → Through g P c c
  by : {c d e : Side} → P c → swing_left g c ≡ Some d → Through g P d e → Through g P c e

-- the fan of c is a ring, and P holds of all its other corners
pub record Ring (g : Gluing) (P : Side → Type 0) (c : Side) : Type 0 where
  pub from : Side
  pub to : Side
  pub leaves : swing_left g c ≡ Some from
  pub round : Through g P from to
  pub returns : swing_left g to ≡ Some c

pub through_map : {g : Gluing} {P : Side → Type 0} (Q : Side → Type 0) → ((x : Side) → P x → Q x) → {c d : Side} → Through g P c d → Through g Q c d
through_map Q f (at {c = c} p) = at (f c p)
through_map Q f (by {c = c} p s w) = by (f c p) s (through_map Q f w)

pub ring_map : {g : Gluing} {P : Side → Type 0} (Q : Side → Type 0) (c : Side) → ((x : Side) → P x → Q x) → Ring g P c → Ring g Q c
ring_map Q c f r = record { from = r.from; to = r.to; leaves = r.leaves; round = through_map Q f r.round; returns = r.returns }

pub through_first : {g : Gluing} {P : Side → Type 0} {c d : Side} → Through g P c d → P c
through_first (at p) = p
through_first (by p s w) = p

pub through_last : {g : Gluing} {P : Side → Type 0} {c d : Side} → Through g P c d → P d
through_last (at p) = p
through_last (by p s w) = through_last w

through_more : {g : Gluing} {P : Side → Type 0} {c d : Side} (e : Side) → Through g P c d → swing_left g d ≡ Some e → P e → Through g P c e
through_more e (at p) s q = by p s (at q)
through_more e (by p s w) t q = by p s (through_more e w t q)

-- the last swing but one
through_less : {g : Gluing} {P : Side → Type 0} {c d : Side} → Through g P c d → (c ≡ d) ⊎ ((x : Side) × Through g P c x × (swing_left g x ≡ Some d))
through_less (at p) = inl refl
through_less {g} {P} (by {c = c} {d = x} {e = d} p s w) = inr (elim (through_less w) [
  | inl e ↦ (c, at p, s ∙ ap {A = Side} Some e)
  | inr t ↦ (t.0, by p s t.1, t.2)
])

-- each corner of the fan is c or in the ring, and has a swing each way
abbrev OnRing : (g : Gluing) (P : Side → Type 0) (c : Side) → Ring g P c → Side → Type 0
OnRing g P c r x = (x ≡ c) ⊎ (Through g P r.from x × Through g P x r.to)

on_left : {faces : ℕ} {g : Gluing} → IsGluing faces g → (P : Side → Type 0) (c : Side) (r : Ring g P c) (x : Side) → OnRing g P c r x → (y : Side) × (swing_left g x ≡ Some y) × OnRing g P c r y
on_left {faces} {g} G P c r x o = elim o [
  | inl e ↦ (r.from, ap (swing_left g) e ∙ r.leaves, inr (at (through_first r.round), r.round))
  | inr t ↦ further x t.0 t.1 r.returns
]
  where
    further : (z : Side) {d : Side} → Through g P r.from z → Through g P z d → swing_left g d ≡ Some c → (y : Side) × (swing_left g z ≡ Some y) × ((y ≡ c) ⊎ (Through g P r.from y × Through g P y d))
    further z b (at p) s = (c, s, inl refl)
    further z b (by {d = y} p t w) s = (y, t, inr (through_more y b t (through_first w), w))

on_right : {faces : ℕ} {g : Gluing} → IsGluing faces g → (P : Side → Type 0) (c : Side) (r : Ring g P c) (x : Side) → OnRing g P c r x → (y : Side) × (swing_right g x ≡ Some y) × OnRing g P c r y
on_right {faces} {g} G P c r x o = elim o [
  | inl e ↦ (r.to, ap (swing_right g) e ∙ left_then_right G r.to c r.returns, inr (r.round, at (through_last r.round)))
  | inr t ↦ elim (through_less t.0) [
    | inl e ↦ (c, left_then_right G c x (r.leaves ∙ ap {A = Side} Some e), inl refl)
    | inr u ↦ (u.0, left_then_right G u.0 x u.2, inr (u.1, by (through_last u.1) u.2 t.1))
  ]
]

on_ring : {faces : ℕ} {g : Gluing} → IsGluing faces g → (P : Side → Type 0) (c : Side) (r : Ring g P c) {x d : Side} → InFan g x d → OnRing g P c r x → OnRing g P c r d
on_ring G P c r here o = o
on_ring G P c r (leftwards {c = x} {d = y} s p) o =
    let t = on_left G P c r x o in
    on_ring G P c r p (subst (OnRing _ P c r) (Some_injective _ _ (sym t.1 ∙ s)) t.2)
on_ring G P c r (rightwards {c = x} {d = y} s p) o =
    let t = on_right G P c r x o in
    on_ring G P c r p (subst (OnRing _ P c r) (Some_injective _ _ (sym t.1 ∙ s)) t.2)

pub ring_has : {faces : ℕ} {g : Gluing} → IsGluing faces g → (P : Side → Type 0) (c d : Side) → Ring g P c → InFan g c d →
    ((d ≡ c) ⊎ P d) × ((x : Side) × (swing_left g d ≡ Some x)) × ((y : Side) × (swing_right g d ≡ Some y))
ring_has G P c d r p =
    let o = on_ring G P c r p (inl refl) in
    let a = on_left G P c r d o in
    let b = on_right G P c r d o in
    (elim o [ inl e ↦ inl e | inr t ↦ inr (through_first t.1) ], (a.0, a.1), (b.0, b.1))

-- a walk in two parts
left_parts : (g : Gluing) (k i m : ℕ) (c x : Side) → m ≡ k + i → left_by g m c ≡ Some x → (y : Side) × (left_by g k c ≡ Some y) × (left_by g i y ≡ Some x)
left_parts g zero i m c x e p = (c, left_none g c, ap (λ (j : ℕ). left_by g j c) (let q : i ≡ m = omega (arith, e) in q) ∙ p)
left_parts g (suc k) i zero c x e p = absurd (omega (arith, e))
left_parts g (suc k) i (suc m) c x e p =
    let s = left_split g m c x p in
    let t = left_parts g k i m s.0 x (omega (arith, e)) s.2 in
    (t.0, left_more g k c s.0 t.0 s.1 t.1, t.2)

-- two equal corners of a walk: it comes back by their distance
comes_back : {faces : ℕ} {g : Gluing} → IsGluing faces g → (i j : ℕ) (c x : Side) → i < j → left_by g i c ≡ Some x → left_by g j c ≡ Some x → (k : ℕ) × (0 < k) × (k ≤ j) × (left_by g k c ≡ Some c)
comes_back {faces} {g} G i j c x h p q = go (between i j h)
  where
    between : (i j : ℕ) → i < j → (k : ℕ) × (0 < k) × (k ≤ j) × (j ≡ k + i)
    between i (suc j) l = elim (cases_eq i j) [
      | inl e ↦ (1, omega arith, omega arith, omega arith)
      | inr n ↦ (let t = between i j (omega arith) in let a = t.1 in let b = t.2 in let d = t.3 in (suc t.0, omega arith, omega arith, omega arith))
    ]
    between i zero l = absurd (omega arith)

    go : (k : ℕ) × (0 < k) × (k ≤ j) × (j ≡ k + i) → (k : ℕ) × (0 < k) × (k ≤ j) × (left_by g k c ≡ Some c)
    go (k, a, b, e) =
        let t = left_parts g k i j c x e q in
        let back : t.0 ≡ c = Some_injective _ _ (sym (left_back G i t.0 x t.2) ∙ left_back G i c x p) in
        (k, a, b, t.1 ∙ ap {A = Side} Some back)

-- whether a walk of at most n swings comes back
first_return : (g : Gluing) (n : ℕ) (c : Side) → ((k : ℕ) × (0 < k) × (left_by g k c ≡ Some c)) ⊎ ((k : ℕ) → 0 < k → k ≤ n → left_by g k c ≡ Some c → ⊥)
first_return g zero c = inr (λ k h l p. (omega arith))
first_return g (suc n) c = elim (first_return g n c) [
  | inl t ↦ inl t
  | inr none ↦ elim (option_tells (left_by g (suc n) c)) [
    | inl e ↦ inr (λ k h l p. elim (cases_eq k (suc n)) [
      | inl q ↦ (let no : None ≡ Some c = sym e ∙ ap (λ (j : ℕ). left_by g j c) (sym q) ∙ p in cc)
      | inr q ↦ none k h (omega arith) p
    ])
    | inr x ↦ elim (same_tells x.0 c) [
      | inl e ↦ inl (suc n, omega arith, x.1 ∙ ap {A = Side} Some e)
      | inr ne ↦ inr (λ k h l p. elim (cases_eq k (suc n)) [
        | inl q ↦ ne (Some_injective _ _ (sym x.1 ∙ ap (λ (j : ℕ). left_by g j c) (sym q) ∙ p))
        | inr q ↦ none k h (omega arith) p
      ])
    ]
  ]
]

number_at : Option Side → ℕ
number_at None = 0
number_at (Some x) = number x

number_at_is : (o : Option Side) (x : Side) → o ≡ Some x → number_at o ≡ number x
unfolding number_at
number_at_is o x e = ap number_at e

-- each corner of the fan can swing on
abbrev pub GoesRound : Gluing → Side → Type 0
GoesRound g c = (d : Side) → InFan g c d → (e : Side) × (swing_left g d ≡ Some e)

goes_on : (g : Gluing) (c : Side) → GoesRound g c → (n : ℕ) → (d : Side) × (left_by g n c ≡ Some d)
goes_on g c on zero = (c, left_none g c)
goes_on g c on (suc n) =
    let t = goes_on g c on n in
    let s = on t.0 (left_by-fan g n c t.0 t.1) in
    (s.0, left_last g n c t.0 s.0 t.1 s.1)

returns : {faces : ℕ} {g : Gluing} → IsGluing faces g → (c : Side) → c.face < faces → GoesRound g c → (k : ℕ) × (0 < k) × (left_by g k c ≡ Some c)
returns {faces} {g} G c h on = elim (first_return g (3 * faces) c) [ inl t ↦ t | inr none ↦ absurd (no_room (3 * faces) (λ i. number_at (left_by g i c)) small (apart none)) ]
  where
    small : (i : ℕ) → i ≤ 3 * faces → number_at (left_by g i c) < 3 * faces
    small i l =
        let t = goes_on g c on i in
        let e = number_at_is (left_by g i c) t.0 t.1 in
        let b = number-lt t.0 faces (left_by-within G i c t.0 h t.1) in
        omega arith

    apart : ((k : ℕ) → 0 < k → k ≤ 3 * faces → left_by g k c ≡ Some c → ⊥) → (i j : ℕ) → i ≤ 3 * faces → j ≤ 3 * faces → number_at (left_by g i c) ≡ number_at (left_by g j c) → i ≡ j
    apart none i j l m e =
        let t = goes_on g c on i in
        let u = goes_on g c on j in
        let q : t.0 ≡ u.0 = number_injective t.0 u.0 (sym (number_at_is (left_by g i c) t.0 t.1) ∙ e ∙ number_at_is (left_by g j c) u.0 u.1) in
        elim (cases_order i j) [
          | inl r ↦ r
          | inr r ↦ elim r [
            | inl less ↦ absurd (let b = comes_back G i j c u.0 less (t.1 ∙ ap {A = Side} Some q) u.1 in let w = b.2 in none b.0 b.1 (omega arith) b.3)
            | inr more ↦ absurd (let b = comes_back G j i c t.0 more (u.1 ∙ ap {A = Side} Some (sym q)) t.1 in let w = b.2 in none b.0 b.1 (omega arith) b.3)
          ]
        ]

-- the other corners of a fan
abbrev pub OtherInFan : Gluing → Side → Side → Type 0
OtherInFan g c d = InFan g c d × (d ≢ c)

chain : (g : Gluing) (c : Side) (n : ℕ) (d : Side) → d ≢ c → InFan g c d → left_by g n d ≡ Some c → (to : Side) × Through g (OtherInFan g c) d to × (swing_left g to ≡ Some c)
chain g c zero d ne p e = absurd (ne (left_by-zero g d c e))
chain g c (suc n) d ne p e =
    let s = left_split g n d c e in
    elim (same_tells s.0 c) [
      | inl q ↦ (d, at (p, ne), s.1 ∙ ap {A = Side} Some q)
      | inr q ↦ (let t = chain g c n s.0 q (fan_trans p (leftwards s.1 here)) s.2 in (t.0, by (p, ne) s.1 t.1, t.2))
    ]

-- a fan without ends is a ring
pub ring_of : {faces : ℕ} {g : Gluing} → IsGluing faces g → (c : Side) → c.face < faces → GoesRound g c → Ring g (OtherInFan g c) c
ring_of {faces} {g} G c h on = go (returns G c h on)
  where
    go : (k : ℕ) × (0 < k) × (left_by g k c ≡ Some c) → Ring g (OtherInFan g c) c
    go (zero, l, e) = absurd (omega arith)
    go (suc k, l, e) =
        let s = left_split g k c c e in
        let ne : s.0 ≢ c = λ q. G.apart (next c) (prev s.0) (left_crosses g c s.0 s.1) (ap (λ (x : Side). x.face) (sym q)) in
        let t = chain g c k s.0 ne (leftwards s.1 here) s.2 in
        record { from = s.0; to = t.0; leaves = s.1; round = t.1; returns = t.2 }

right_parts : (g : Gluing) (n m : ℕ) (d c x : Side) → right_by g n d ≡ Some c → right_by g m c ≡ Some x → right_by g (n + m) d ≡ Some x
right_parts g zero m d c x p q = ap (λ (j : ℕ). right_by g j d) (let e : zero + m ≡ m = omega arith in e) ∙ ap (right_by g m) (right_by-zero g d c p) ∙ q
right_parts g (suc n) m d c x p q =
    let s = right_split g n d c p in
    ap (λ (j : ℕ). right_by g j d) (let e : suc n + m ≡ suc (n + m) = omega arith in e) ∙ right_more g (n + m) d s.0 x s.1 (right_parts g n m s.0 c x s.2 q)

-- a walk to the right as long as there are corners: the fan has no end
pub long_walk : {faces : ℕ} {g : Gluing} → IsGluing faces g → (c last : Side) → c.face < faces → right_by g (3 * faces) c ≡ Some last → GoesRound g c
long_walk {faces} {g} G c last h p d q = elim (option_tells (swing_left g d)) [
  | inr s ↦ s
  | inl none ↦ absurd (
      let t = to_leftmost G q none in
      let w = right_parts g t.0 (3 * faces) d c last (left_back G t.0 c d t.1) p in
      let u = right_passed g (3 * faces) (t.0 + 3 * faces) d last (omega arith) w in
      right_short G d u.0 (left_by-within G t.0 c d h t.1) none u.1)
]
