-- The test of one fan finds exactly the corners of the fan.
use Rattle.std.proofs.Common.{◌≡◌, ℕ, zero, suc, ◌+◌, ◌*◌, ◌<◌, ◌≤◌, Bool, true, false, cond, ◌||◌, Option, Some, None, ◌⊎◌, inl, inr, sym, refl, ap, ◌∙◌, subst, arith}
use Rattle.std.proofs.lemmas.Bool.{cases_Bool, cases_eq, cases_lt, cases_order, or_cases}
use Rattle.corner_table.specs.Sides.{Side, number, same, Gluing, IsGluing}
use Rattle.corner_table.specs.Fans.{swing_left, swing_right, InFan, here, leftwards, rightwards, walks_left, walks_right, meets, left_by, right_by}
use Rattle.corner_table.proofs.Places.{option_tells, Some_injective, same-true, same_refl}
use Rattle.corner_table.proofs.Numbers.{number-lt, number_injective, no_room}
use Rattle.corner_table.proofs.Walks.{left_by-zero, left_none, left_more, left_split, left_last, left_back, right_split, right_by-zero, left_then_right, Trail, trail}
use Rattle.corner_table.proofs.Boundary.{left_by-within, left_passed}

walks_left-none : (g : Gluing) (n : ℕ) (c d : Side) → swing_left g c ≡ None → walks_left g (suc n) c d ≡ cond (same c d) true false
unfolding walks_left
walks_left-none g n c d h = rw (h, walks_left) refl

walks_left-some : (g : Gluing) (n : ℕ) (c d e : Side) → swing_left g c ≡ Some e → walks_left g (suc n) c d ≡ cond (same c d) true (walks_left g n e d)
unfolding walks_left
walks_left-some g n c d e h = rw (h, walks_left) refl

walks_right-none : (g : Gluing) (n : ℕ) (c d : Side) → swing_right g c ≡ None → walks_right g (suc n) c d ≡ cond (same c d) true false
unfolding walks_right
walks_right-none g n c d h = rw (h, walks_right) refl

walks_right-some : (g : Gluing) (n : ℕ) (c d e : Side) → swing_right g c ≡ Some e → walks_right g (suc n) c d ≡ cond (same c d) true (walks_right g n e d)
unfolding walks_right
walks_right-some g n c d e h = rw (h, walks_right) refl

walks_left-zero : (g : Gluing) (c d : Side) → walks_left g zero c d ≡ same c d
unfolding walks_left
walks_left-zero g c d = refl

walks_right-zero : (g : Gluing) (c d : Side) → walks_right g zero c d ≡ same c d
unfolding walks_right
walks_right-zero g c d = refl

cond_either : (t u : Bool) → cond t true u ≡ true → (t ≡ true) ⊎ (u ≡ true)
cond_either true u e = inl refl
cond_either false u e = inr e

cond_first : (t u : Bool) → t ≡ true → cond t true u ≡ true
cond_first true u e = refl
cond_first false u e = absurd (cc)

cond_second : (t u : Bool) → u ≡ true → cond t true u ≡ true
cond_second true u e = refl
cond_second false u e = e

-- what a walk finds is in the fan
pub walks_left-fan : (g : Gluing) (n : ℕ) (c d : Side) → walks_left g n c d ≡ true → InFan g c d
walks_left-fan g zero c d e = subst (InFan g c) (same-true c d (sym (walks_left-zero g c d) ∙ e)) here
walks_left-fan g (suc n) c d e = elim (option_tells (swing_left g c)) [
  | inl h ↦ elim (cond_either (same c d) false (sym (walks_left-none g n c d h) ∙ e)) [
    | inl q ↦ subst (InFan g c) (same-true c d q) here
    | inr q ↦ absurd (let no : false ≡ true = q in cc)
  ]
  | inr x ↦ elim (cond_either (same c d) (walks_left g n x.0 d) (sym (walks_left-some g n c d x.0 x.1) ∙ e)) [
    | inl q ↦ subst (InFan g c) (same-true c d q) here
    | inr q ↦ leftwards x.1 (walks_left-fan g n x.0 d q)
  ]
]

pub walks_right-fan : (g : Gluing) (n : ℕ) (c d : Side) → walks_right g n c d ≡ true → InFan g c d
walks_right-fan g zero c d e = subst (InFan g c) (same-true c d (sym (walks_right-zero g c d) ∙ e)) here
walks_right-fan g (suc n) c d e = elim (option_tells (swing_right g c)) [
  | inl h ↦ elim (cond_either (same c d) false (sym (walks_right-none g n c d h) ∙ e)) [
    | inl q ↦ subst (InFan g c) (same-true c d q) here
    | inr q ↦ absurd (let no : false ≡ true = q in cc)
  ]
  | inr x ↦ elim (cond_either (same c d) (walks_right g n x.0 d) (sym (walks_right-some g n c d x.0 x.1) ∙ e)) [
    | inl q ↦ subst (InFan g c) (same-true c d q) here
    | inr q ↦ rightwards x.1 (walks_right-fan g n x.0 d q)
  ]
]

-- a walk finds what its swings lead to
hits_self : (g : Gluing) (n : ℕ) (c d : Side) → c ≡ d → walks_left g n c d ≡ true
hits_self g zero c d e = walks_left-zero g c d ∙ ap (same c) (sym e) ∙ same_refl c
hits_self g (suc n) c d e = elim (option_tells (swing_left g c)) [
  | inl h ↦ walks_left-none g n c d h ∙ cond_first (same c d) false (ap (same c) (sym e) ∙ same_refl c)
  | inr x ↦ walks_left-some g n c d x.0 x.1 ∙ cond_first (same c d) (walks_left g n x.0 d) (ap (same c) (sym e) ∙ same_refl c)
]

pub left_hits : (g : Gluing) (m n : ℕ) (c d : Side) → m ≤ n → left_by g m c ≡ Some d → walks_left g n c d ≡ true
left_hits g zero n c d h p = hits_self g n c d (left_by-zero g c d p)
left_hits g (suc m) zero c d h p = absurd (omega arith)
left_hits g (suc m) (suc n) c d h p =
    let s = left_split g m c d p in
    walks_left-some g n c d s.0 s.1 ∙ cond_second (same c d) (walks_left g n s.0 d) (left_hits g m n s.0 d (omega arith) s.2)

right_hits_self : (g : Gluing) (n : ℕ) (c d : Side) → c ≡ d → walks_right g n c d ≡ true
right_hits_self g zero c d e = walks_right-zero g c d ∙ ap (same c) (sym e) ∙ same_refl c
right_hits_self g (suc n) c d e = elim (option_tells (swing_right g c)) [
  | inl h ↦ walks_right-none g n c d h ∙ cond_first (same c d) false (ap (same c) (sym e) ∙ same_refl c)
  | inr x ↦ walks_right-some g n c d x.0 x.1 ∙ cond_first (same c d) (walks_right g n x.0 d) (ap (same c) (sym e) ∙ same_refl c)
]

pub right_hits : (g : Gluing) (m n : ℕ) (c d : Side) → m ≤ n → right_by g m c ≡ Some d → walks_right g n c d ≡ true
right_hits g zero n c d h p = right_hits_self g n c d (right_by-zero g c d p)
right_hits g (suc m) zero c d h p = absurd (omega arith)
right_hits g (suc m) (suc n) c d h p =
    let s = right_split g m c d p in
    walks_right-some g n c d s.0 s.1 ∙ cond_second (same c d) (walks_right g n s.0 d) (right_hits g m n s.0 d (omega arith) s.2)

-- the last of n + 1 swings, and those before it
left_unlast : (g : Gluing) (k : ℕ) (b d : Side) → left_by g (suc k) b ≡ Some d → (x : Side) × (left_by g k b ≡ Some x) × (swing_left g x ≡ Some d)
left_unlast g zero b d e = let s = left_split g zero b d e in (b, left_none g b, s.1 ∙ ap {A = Side} Some (left_by-zero g s.0 d s.2))
left_unlast g (suc k) b d e =
    let s = left_split g (suc k) b d e in
    let t = left_unlast g k s.0 d s.2 in
    (t.0, left_more g k b s.0 t.0 s.1 t.1, t.2)

-- one swing more, or round again
one_more : (g : Gluing) (p : ℕ) (c d x : Side) → 0 < p → left_by g p c ≡ Some c → swing_left g x ≡ Some d → (m : ℕ) × (m < p) × (left_by g m c ≡ Some x) → (m : ℕ) × (m < p) × (left_by g m c ≡ Some d)
one_more g p c d x h r s u = elim (cases_eq (suc u.0) p) [
  | inl e ↦ (
      let at : left_by g p c ≡ Some d = ap (λ (n : ℕ). left_by g n c) (sym e) ∙ left_last g u.0 c x d u.2 s in
      (zero, h, left_none g c ∙ sym r ∙ at))
  | inr n ↦ (let l = u.1 in (suc u.0, omega arith, left_last g u.0 c x d u.2 s))
]

-- a walk that comes back goes round
round_again : (g : Gluing) (p n : ℕ) (c d : Side) → 0 < p → left_by g p c ≡ Some c → left_by g n c ≡ Some d → (m : ℕ) × (m < p) × (left_by g m c ≡ Some d)
round_again g p zero c d h r q = (zero, h, q)
round_again g p (suc n) c d h r q =
    let t = left_unlast g n c d q in
    one_more g p c d t.0 h r t.2 (round_again g p n c t.0 h r t.1)

-- two equal corners of a walk: the walk comes back by their distance
comes_back : {faces : ℕ} {g : Gluing} → IsGluing faces g → (i k : ℕ) (c x : Side) → left_by g i c ≡ Some x → left_by g k x ≡ Some x → left_by g k c ≡ Some c
comes_back {faces} {g} G zero k c x p q =
    let e = left_by-zero g c x p in
    ap (left_by g k) e ∙ q ∙ ap {A = Side} Some (sym e)
comes_back {faces} {g} G (suc i) k c x p q =
    let t = left_unlast g i c x p in
    comes_back G i k c t.0 t.1 (shift k t.0 x t.2 q)
  where
    -- if x comes back to itself, so does the corner before it
    shift : (k : ℕ) (y x : Side) → swing_left g y ≡ Some x → left_by g k x ≡ Some x → left_by g k y ≡ Some y
    shift zero y x s e = left_none g y
    shift (suc k) y x s e =
        let u = left_unlast g k x x e in
        let back : u.0 ≡ y = Some_injective _ _ (sym (left_then_right G u.0 x u.2) ∙ left_then_right G y x s) in
        left_more g k y x y s (u.1 ∙ ap {A = Side} Some back)

-- between two numbers of swings
between : (g : Gluing) (i j : ℕ) (c x y : Side) → i ≤ j → left_by g i c ≡ Some x → left_by g j c ≡ Some y → (k : ℕ) × (i + k ≡ j) × (left_by g k x ≡ Some y)
between g zero j c x y h p q = (j, omega arith, ap (left_by g j) (sym (left_by-zero g c x p)) ∙ q)
between g (suc i) zero c x y h p q = absurd (omega arith)
between g (suc i) (suc j) c x y h p q =
    let s = left_split g i c x p in
    let t = left_split g j c y q in
    let e : s.0 ≡ t.0 = Some_injective _ _ (sym s.1 ∙ t.1) in
    let u = between g i j t.0 x y (omega arith) (ap (left_by g i) (sym e) ∙ s.2) t.2 in
    let sum = u.1 in
    (u.0, omega arith, u.2)

number_at : Option Side → ℕ
number_at None = 0
number_at (Some x) = number x

number_at-some : (o : Option Side) (x : Side) → o ≡ Some x → number_at o ≡ number x
unfolding number_at
number_at-some o x e = ap number_at e

-- the first swings, as many as there are corners, find whatever more would
pub left_found : {faces : ℕ} {g : Gluing} → IsGluing faces g → (n : ℕ) (c d : Side) → c.face < faces → left_by g n c ≡ Some d → walks_left g (3 * faces) c d ≡ true
left_found {faces} {g} G n c d h p = elim (cases_Bool (walks_left g (3 * faces) c d)) [ inl t ↦ t | inr f ↦ absurd (lost f) ]
  where
    lost : walks_left g (3 * faces) c d ≡ false → ⊥
    lost f = elim (cases_lt (3 * faces) n) [ inr le ↦ missed f n le p | inl lt ↦ no_room (3 * faces) (λ i. number_at (left_by g i c)) (small lt) (apart lt f) ]
      where
        missed : walks_left g (3 * faces) c d ≡ false → (m : ℕ) → m ≤ 3 * faces → left_by g m c ≡ Some d → ⊥
        missed f m le q = let no : false ≡ true = sym f ∙ left_hits g m (3 * faces) c d le q in cc

        small : 3 * faces < n → (i : ℕ) → i ≤ 3 * faces → number_at (left_by g i c) < 3 * faces
        small lt i l =
            let t = left_passed g i n c d (omega arith) p in
            let e = number_at-some (left_by g i c) t.0 t.1 in
            let b = number-lt t.0 faces (left_by-within G i c t.0 h t.1) in
            omega arith

        -- two equal corners at i < j would make the walk come back in j - i swings
        equal : walks_left g (3 * faces) c d ≡ false → (i j : ℕ) (x : Side) → i < j → j ≤ 3 * faces → left_by g i c ≡ Some x → left_by g j c ≡ Some x → ⊥
        equal f i j x l m a b =
            let u = between g i j c x x (omega arith) a b in
            let sum = u.1 in
            let back = comes_back G i u.0 c x a u.2 in
            let v = round_again g u.0 n c d (omega arith) back p in
            let w = v.1 in
            missed f v.0 (omega arith) v.2

        apart : 3 * faces < n → walks_left g (3 * faces) c d ≡ false → (i j : ℕ) → i ≤ 3 * faces → j ≤ 3 * faces → number_at (left_by g i c) ≡ number_at (left_by g j c) → i ≡ j
        apart lt f i j l m e =
            let t = left_passed g i n c d (omega arith) p in
            let u = left_passed g j n c d (omega arith) p in
            let q : t.0 ≡ u.0 = number_injective t.0 u.0 (sym (number_at-some (left_by g i c) t.0 t.1) ∙ e ∙ number_at-some (left_by g j c) u.0 u.1) in
            elim (cases_order i j) [
              | inl r ↦ r
              | inr r ↦ elim r [
                | inl less ↦ absurd (equal f i j u.0 less m (t.1 ∙ ap {A = Side} Some q) u.1)
                | inr more ↦ absurd (equal f j i u.0 more l u.1 (t.1 ∙ ap {A = Side} Some q))
              ]
            ]

either_first : (t u : Bool) → t ≡ true → (t || u) ≡ true
either_first true u e = refl
either_first false u e = absurd (cc)

either_second : (t u : Bool) → u ≡ true → (t || u) ≡ true
either_second true u e = refl
either_second false u e = e

-- what a walk found, it found after some of its swings
left_hit_tells : (g : Gluing) (n : ℕ) (c d : Side) → walks_left g n c d ≡ true → (m : ℕ) × (m ≤ n) × (left_by g m c ≡ Some d)
left_hit_tells g zero c d e = (zero, omega arith, left_none g c ∙ ap {A = Side} Some (same-true c d (sym (walks_left-zero g c d) ∙ e)))
left_hit_tells g (suc n) c d e = elim (option_tells (swing_left g c)) [
  | inl h ↦ elim (cond_either (same c d) false (sym (walks_left-none g n c d h) ∙ e)) [
    | inl q ↦ (zero, omega arith, left_none g c ∙ ap {A = Side} Some (same-true c d q))
    | inr q ↦ absurd (let no : false ≡ true = q in cc)
  ]
  | inr x ↦ elim (cond_either (same c d) (walks_left g n x.0 d) (sym (walks_left-some g n c d x.0 x.1) ∙ e)) [
    | inl q ↦ (zero, omega arith, left_none g c ∙ ap {A = Side} Some (same-true c d q))
    | inr q ↦ (let t = left_hit_tells g n x.0 d q in let l = t.1 in (suc t.0, omega arith, left_more g t.0 c x.0 d x.1 t.2))
  ]
]

-- the test finds every corner of the fan
pub fan_meets : {faces : ℕ} {g : Gluing} → IsGluing faces g → (c d : Side) → c.face < faces → d.face < faces → InFan g c d → meets faces g c d ≡ true
fan_meets {faces} {g} G c d h k p = go (trail G p)
  where
    go : Trail g c d → meets faces g c d ≡ true
    go t = elim t.1 [
      | inl q ↦ either_first _ _ (left_found G t.0 c d h q)
      | inr q ↦ (
          let m = left_hit_tells g (3 * faces) d c (left_found G t.0 d c k q) in
          either_second _ _ (right_hits g m.0 (3 * faces) c d m.1 (left_back G m.0 d c m.2)))
    ]

-- and no other
pub meets-fan : (faces : ℕ) (g : Gluing) (c d : Side) → meets faces g c d ≡ true → InFan g c d
meets-fan faces g c d e = elim (or_cases (walks_left g (3 * faces) c d) (walks_right g (3 * faces) c d) e) [
  | inl q ↦ walks_left-fan g (3 * faces) c d q
  | inr q ↦ walks_right-fan g (3 * faces) c d q
]
