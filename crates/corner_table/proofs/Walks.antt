-- Walks round a vertex: swings are inverse, and a fan is one walk.
use Rattle.std.proofs.Common.{◌≡◌, ℕ, zero, suc, ◌<◌, Some, None, ◌⊎◌, inl, inr, sym, refl, ap, ◌∙◌, subst, option_map}
use Rattle.corner_table.specs.Sides.{Side, next, prev, Gluing, IsGluing}
use Rattle.corner_table.specs.Fans.{swing_left, swing_right, InFan, here, leftwards, rightwards, left_by, right_by}
use Rattle.corner_table.proofs.Places.{option_tells, Some_injective, next-prev, prev-next}

-- a swing to the left crosses the pair of the side after c and the side before d
pub left_crosses : (g : Gluing) (c d : Side) → swing_left g c ≡ Some d → g (next c) ≡ Some (prev d)
left_crosses g c d e =
    elim (option_tells (g (next c))) [
      | inl n ↦ (let q : None ≡ Some d = sym (ap (option_map next) n) ∙ e in cc)
      | inr y ↦ (
          let q : Some (next y.0) ≡ Some d = sym (ap (option_map next) y.1) ∙ e in
          y.1 ∙ ap {A = Side} Some (sym (prev-next y.0) ∙ ap prev (Some_injective _ _ q)))
    ]

pub crosses-left : (g : Gluing) (c d : Side) → g (next c) ≡ Some (prev d) → swing_left g c ≡ Some d
crosses-left g c d e = ap (option_map next) e ∙ ap {A = Side} Some (next-prev d)

pub right_crosses : (g : Gluing) (c d : Side) → swing_right g c ≡ Some d → g (prev c) ≡ Some (next d)
right_crosses g c d e =
    elim (option_tells (g (prev c))) [
      | inl n ↦ (let q : None ≡ Some d = sym (ap (option_map prev) n) ∙ e in cc)
      | inr y ↦ (
          let q : Some (prev y.0) ≡ Some d = sym (ap (option_map prev) y.1) ∙ e in
          y.1 ∙ ap {A = Side} Some (sym (next-prev y.0) ∙ ap next (Some_injective _ _ q)))
    ]

pub crosses-right : (g : Gluing) (c d : Side) → g (prev c) ≡ Some (next d) → swing_right g c ≡ Some d
crosses-right g c d e = ap (option_map prev) e ∙ ap {A = Side} Some (prev-next d)

-- swings are inverse
pub left_then_right : {faces : ℕ} {g : Gluing} → IsGluing faces g → (c d : Side) → swing_left g c ≡ Some d → swing_right g d ≡ Some c
left_then_right {faces} {g} G c d e = crosses-right g d c (G.paired (next c) (prev d) (left_crosses g c d e))

pub right_then_left : {faces : ℕ} {g : Gluing} → IsGluing faces g → (c d : Side) → swing_right g c ≡ Some d → swing_left g d ≡ Some c
right_then_left {faces} {g} G c d e = crosses-left g d c (G.paired (prev c) (next d) (right_crosses g c d e))

-- a swing stays among the faces
pub left-within : {faces : ℕ} {g : Gluing} → IsGluing faces g → (c d : Side) → swing_left g c ≡ Some d → d.face < faces
left-within {faces} {g} G c d e = G.within (prev d) (next c) (G.paired (next c) (prev d) (left_crosses g c d e))

pub right-within : {faces : ℕ} {g : Gluing} → IsGluing faces g → (c d : Side) → swing_right g c ≡ Some d → d.face < faces
right-within {faces} {g} G c d e = G.within (next d) (prev c) (G.paired (prev c) (next d) (right_crosses g c d e))

-- fans are classes
pub fan_trans : {g : Gluing} {c d e : Side} → InFan g c d → InFan g d e → InFan g c e
fan_trans here q = q
fan_trans (leftwards s p) q = leftwards s (fan_trans p q)
fan_trans (rightwards s p) q = rightwards s (fan_trans p q)

pub fan_sym : {g : Gluing} {c d : Side} → {faces : ℕ} → IsGluing faces g → InFan g c d → InFan g d c
fan_sym G here = here
fan_sym G (leftwards {c = c} {d = d} s p) = fan_trans (fan_sym G p) (rightwards (left_then_right G c d s) here)
fan_sym G (rightwards {c = c} {d = d} s p) = fan_trans (fan_sym G p) (leftwards (right_then_left G c d s) here)

pub left_by-zero : (g : Gluing) (c d : Side) → left_by g zero c ≡ Some d → c ≡ d
unfolding left_by
left_by-zero g c d e = Some_injective _ _ e

pub right_by-zero : (g : Gluing) (c d : Side) → right_by g zero c ≡ Some d → c ≡ d
unfolding right_by
right_by-zero g c d e = Some_injective _ _ e

pub left_none : (g : Gluing) (c : Side) → left_by g zero c ≡ Some c
unfolding left_by
left_none g c = refl

pub right_none : (g : Gluing) (c : Side) → right_by g zero c ≡ Some c
unfolding right_by
right_none g c = refl

pub left_more : (g : Gluing) (n : ℕ) (c d e : Side) → swing_left g c ≡ Some d → left_by g n d ≡ Some e → left_by g (suc n) c ≡ Some e
unfolding left_by
left_more g n c d e s p = rw (s, left_by) p

pub right_more : (g : Gluing) (n : ℕ) (c d e : Side) → swing_right g c ≡ Some d → right_by g n d ≡ Some e → right_by g (suc n) c ≡ Some e
unfolding right_by
right_more g n c d e s p = rw (s, right_by) p

-- the first of n + 1 swings, and the rest
pub left_split : (g : Gluing) (n : ℕ) (c e : Side) → left_by g (suc n) c ≡ Some e → (d : Side) × (swing_left g c ≡ Some d) × (left_by g n d ≡ Some e)
unfolding left_by
left_split g n c e p =
    elim (option_tells (swing_left g c)) [
      | inl s ↦ (let q : None ≡ Some e = sym (rw (s, left_by) refl) ∙ p in cc)
      | inr d ↦ (d.0, d.1, sym (rw (d.1, left_by) refl) ∙ p)
    ]

pub right_split : (g : Gluing) (n : ℕ) (c e : Side) → right_by g (suc n) c ≡ Some e → (d : Side) × (swing_right g c ≡ Some d) × (right_by g n d ≡ Some e)
unfolding right_by
right_split g n c e p =
    elim (option_tells (swing_right g c)) [
      | inl s ↦ (let q : None ≡ Some e = sym (rw (s, right_by) refl) ∙ p in cc)
      | inr d ↦ (d.0, d.1, sym (rw (d.1, right_by) refl) ∙ p)
    ]

-- one more swing at the end
pub left_last : (g : Gluing) (n : ℕ) (c d e : Side) → left_by g n c ≡ Some d → swing_left g d ≡ Some e → left_by g (suc n) c ≡ Some e
left_last g zero c d e p s = left_more g zero c e e (ap (swing_left g) (left_by-zero g c d p) ∙ s) (left_none g e)
left_last g (suc n) c d e p s =
    let m = left_split g n c d p in
    left_more g (suc n) c m.0 e m.1 (left_last g n m.0 d e m.2 s)

pub right_last : (g : Gluing) (n : ℕ) (c d e : Side) → right_by g n c ≡ Some d → swing_right g d ≡ Some e → right_by g (suc n) c ≡ Some e
right_last g zero c d e p s = right_more g zero c e e (ap (swing_right g) (right_by-zero g c d p) ∙ s) (right_none g e)
right_last g (suc n) c d e p s =
    let m = right_split g n c d p in
    right_more g (suc n) c m.0 e m.1 (right_last g n m.0 d e m.2 s)

-- back the same way
pub left_back : {faces : ℕ} {g : Gluing} → IsGluing faces g → (n : ℕ) (c d : Side) → left_by g n c ≡ Some d → right_by g n d ≡ Some c
left_back {faces} {g} G zero c d p = let e = left_by-zero g c d p in right_none g d ∙ ap {A = Side} Some (sym e)
left_back {faces} {g} G (suc n) c d p =
    let m = left_split g n c d p in
    right_last g n d m.0 c (left_back G n m.0 d m.2) (left_then_right G c m.0 m.1)

pub right_back : {faces : ℕ} {g : Gluing} → IsGluing faces g → (n : ℕ) (c d : Side) → right_by g n c ≡ Some d → left_by g n d ≡ Some c
right_back {faces} {g} G zero c d p = let e = right_by-zero g c d p in left_none g d ∙ ap {A = Side} Some (sym e)
right_back {faces} {g} G (suc n) c d p =
    let m = right_split g n c d p in
    left_last g n d m.0 c (right_back G n m.0 d m.2) (right_then_left G c m.0 m.1)

-- a walk stays in the fan
pub left_by-fan : (g : Gluing) (n : ℕ) (c d : Side) → left_by g n c ≡ Some d → InFan g c d
left_by-fan g zero c d p = subst (λ x. InFan g c x) (left_by-zero g c d p) here
left_by-fan g (suc n) c d p = let m = left_split g n c d p in leftwards m.1 (left_by-fan g n m.0 d m.2)

pub right_by-fan : (g : Gluing) (n : ℕ) (c d : Side) → right_by g n c ≡ Some d → InFan g c d
right_by-fan g zero c d p = subst (λ x. InFan g c x) (right_by-zero g c d p) here
right_by-fan g (suc n) c d p = let m = right_split g n c d p in rightwards m.1 (right_by-fan g n m.0 d m.2)

-- one walk to the left leads from one corner to the other
abbrev pub Trail : Gluing → Side → Side → Type 0
Trail g c d = (n : ℕ) × ((left_by g n c ≡ Some d) ⊎ (left_by g n d ≡ Some c))

-- a fan is one walk
pub trail : {faces : ℕ} {g : Gluing} → IsGluing faces g → {c d : Side} → InFan g c d → Trail g c d
trail {faces} {g} G (here {c = c}) = (zero, inl (left_none g c))
trail {faces} {g} G (leftwards {c = c} {d = x} {e = d} s p) = go (trail G p)
  where
    behind : (n : ℕ) → left_by g n d ≡ Some x → Trail g c d
    behind zero q = (1, inl (left_more g zero c x d s (left_none g x ∙ ap {A = Side} Some (sym (left_by-zero g d x q)))))
    behind (suc n) q =
        let m = right_split g n x d (left_back G (suc n) d x q) in
        let e : m.0 ≡ c = Some_injective _ _ (sym m.1 ∙ left_then_right G c x s) in
        (n, inr (right_back G n c d (ap (right_by g n) (sym e) ∙ m.2)))

    go : Trail g x d → Trail g c d
    go t = elim t.1 [ inl q ↦ (suc t.0, inl (left_more g t.0 c x d s q)) | inr q ↦ behind t.0 q ]
trail {faces} {g} G (rightwards {c = c} {d = x} {e = d} s p) = go (trail G p)
  where
    back : swing_left g x ≡ Some c
    back = right_then_left G c x s

    ahead : (n : ℕ) → left_by g n x ≡ Some d → Trail g c d
    ahead zero q = (1, inr (left_more g zero d c c (ap (swing_left g) (sym (left_by-zero g x d q)) ∙ back) (left_none g c)))
    ahead (suc n) q =
        let m = left_split g n x d q in
        let e : m.0 ≡ c = Some_injective _ _ (sym m.1 ∙ back) in
        (n, inl (ap (left_by g n) (sym e) ∙ m.2))

    go : Trail g x d → Trail g c d
    go t = elim t.1 [ inl q ↦ ahead t.0 q | inr q ↦ (suc t.0, inr (left_last g t.0 d x c q back)) ]

-- from any corner of a fan, walking left comes to its last corner
pub to_leftmost : {faces : ℕ} {g : Gluing} → IsGluing faces g → {c d : Side} → InFan g c d → swing_left g d ≡ None → (n : ℕ) × (left_by g n c ≡ Some d)
to_leftmost {faces} {g} G {c} {d} p h = go (trail G p)
  where
    wrong : (n : ℕ) → left_by g n d ≡ Some c → (n : ℕ) × (left_by g n c ≡ Some d)
    wrong zero q = (zero, left_none g c ∙ ap {A = Side} Some (sym (left_by-zero g d c q)))
    wrong (suc n) q = let m = left_split g n d c q in (let no_swing : None ≡ Some m.0 = sym h ∙ m.1 in cc)

    go : Trail g c d → (n : ℕ) × (left_by g n c ≡ Some d)
    go t = elim t.1 [ inl q ↦ (t.0, q) | inr q ↦ wrong t.0 q ]

pub to_rightmost : {faces : ℕ} {g : Gluing} → IsGluing faces g → {c d : Side} → InFan g c d → swing_right g d ≡ None → (n : ℕ) × (right_by g n c ≡ Some d)
to_rightmost {faces} {g} G {c} {d} p h = go (trail G p)
  where
    wrong : (n : ℕ) → left_by g n c ≡ Some d → (n : ℕ) × (right_by g n c ≡ Some d)
    wrong zero q = (zero, right_none g c ∙ ap {A = Side} Some (left_by-zero g c d q))
    wrong (suc n) q = let m = right_split g n d c (left_back G (suc n) c d q) in (let no_swing : None ≡ Some m.0 = sym h ∙ m.1 in cc)

    go : Trail g c d → (n : ℕ) × (right_by g n c ≡ Some d)
    go t = elim t.1 [ inl q ↦ wrong t.0 q | inr q ↦ (t.0, left_back G t.0 d c q) ]

-- a fan has at most one last corner to the left, and one to the right
pub ends_once : {faces : ℕ} {g : Gluing} → IsGluing faces g → {c d : Side} → InFan g c d → swing_left g c ≡ None → swing_left g d ≡ None → c ≡ d
ends_once {faces} {g} G {c} {d} p h k = let t = to_leftmost G p k in go t.0 t.1
  where
    go : (n : ℕ) → left_by g n c ≡ Some d → c ≡ d
    go zero q = left_by-zero g c d q
    go (suc n) q = let m = left_split g n c d q in (let no_swing : None ≡ Some m.0 = sym h ∙ m.1 in cc)

pub starts_once : {faces : ℕ} {g : Gluing} → IsGluing faces g → {c d : Side} → InFan g c d → swing_right g c ≡ None → swing_right g d ≡ None → c ≡ d
starts_once {faces} {g} G {c} {d} p h k = let t = to_rightmost G p k in go t.0 t.1
  where
    go : (n : ℕ) → right_by g n c ≡ Some d → c ≡ d
    go zero q = right_by-zero g c d q
    go (suc n) q = let m = right_split g n c d q in (let no_swing : None ≡ Some m.0 = sym h ∙ m.1 in cc)

-- the number of swings to the right that lead to the last corner is one
pub right_count : (g : Gluing) (m n : ℕ) (x c : Side) → swing_right g c ≡ None → right_by g m x ≡ Some c → right_by g n x ≡ Some c → m ≡ n
right_count g zero zero x c h p q = refl
right_count g zero (suc n) x c h p q =
    let m = right_split g n x c q in
    let no_swing : None ≡ Some m.0 = sym h ∙ ap (swing_right g) (sym (right_by-zero g x c p)) ∙ m.1 in cc
right_count g (suc m) zero x c h p q =
    let k = right_split g m x c p in
    let no_swing : None ≡ Some k.0 = sym h ∙ ap (swing_right g) (sym (right_by-zero g x c q)) ∙ k.1 in cc
right_count g (suc m) (suc n) x c h p q =
    let k = right_split g m x c p in
    let l = right_split g n x c q in
    let e : k.0 ≡ l.0 = Some_injective _ _ (sym k.1 ∙ l.1) in
    ap suc (right_count g m n l.0 c h (ap (right_by g m) (sym e) ∙ k.2) l.2)

pub left_count : (g : Gluing) (m n : ℕ) (x c : Side) → swing_left g c ≡ None → left_by g m x ≡ Some c → left_by g n x ≡ Some c → m ≡ n
left_count g zero zero x c h p q = refl
left_count g zero (suc n) x c h p q =
    let m = left_split g n x c q in
    let no_swing : None ≡ Some m.0 = sym h ∙ ap (swing_left g) (sym (left_by-zero g x c p)) ∙ m.1 in cc
left_count g (suc m) zero x c h p q =
    let k = left_split g m x c p in
    let no_swing : None ≡ Some k.0 = sym h ∙ ap (swing_left g) (sym (left_by-zero g x c q)) ∙ k.1 in cc
left_count g (suc m) (suc n) x c h p q =
    let k = left_split g m x c p in
    let l = left_split g n x c q in
    let e : k.0 ≡ l.0 = Some_injective _ _ (sym k.1 ∙ l.1) in
    ap suc (left_count g m n l.0 c h (ap (left_by g m) (sym e) ∙ k.2) l.2)
