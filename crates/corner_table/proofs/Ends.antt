-- A fan is closed, or it has a first and a last side, each of them one.
use Rattle.std.proofs.Common.{◌≡◌, ℕ, zero, suc, ◌+◌, ◌*◌, ◌<◌, Some, None, inl, inr, sym, ap, ◌∙◌, subst, arith, option_map}
use Rattle.corner_table.specs.Sides.{Side, next, prev, Gluing, IsGluing}
use Rattle.corner_table.specs.Fans.{swing_left, swing_right, left_by, right_by, InFan, leftmost, rightmost}
use Rattle.corner_table.specs.Laws.{IsClosed, IsOpen, FanIsClosedOrOpen, StartsOnce, EndsOnce}
use Rattle.corner_table.proofs.Places.{next-prev, prev-next, next_injective, prev_injective}
use Rattle.corner_table.proofs.Walks.{left_by-zero, right_by-zero, left_more, right_more, left_split, right_split, left_back, right_back, left_by-fan, right_by-fan, fan_trans, fan_sym, to_leftmost, to_rightmost, ends_once, starts_once}
use Rattle.corner_table.proofs.Boundary.{leftmost_tells, rightmost_ends, left_passed, right_passed, left_by-within, right_by-within, left_short, right_short, free-left, free-right, left-free, right-free}

-- a walk in two parts
left_parts : (g : Gluing) (n m : ℕ) (d c x : Side) → left_by g n d ≡ Some c → left_by g m c ≡ Some x → left_by g (n + m) d ≡ Some x
left_parts g zero m d c x p q = ap (λ (j : ℕ). left_by g j d) (let e : zero + m ≡ m = omega arith in e) ∙ ap (left_by g m) (left_by-zero g d c p) ∙ q
left_parts g (suc n) m d c x p q =
    let s = left_split g n d c p in
    ap (λ (j : ℕ). left_by g j d) (let e : suc n + m ≡ suc (n + m) = omega arith in e) ∙ left_more g (n + m) d s.0 x s.1 (left_parts g n m s.0 c x s.2 q)

right_parts : (g : Gluing) (n m : ℕ) (d c x : Side) → right_by g n d ≡ Some c → right_by g m c ≡ Some x → right_by g (n + m) d ≡ Some x
right_parts g zero m d c x p q = ap (λ (j : ℕ). right_by g j d) (let e : zero + m ≡ m = omega arith in e) ∙ ap (right_by g m) (right_by-zero g d c p) ∙ q
right_parts g (suc n) m d c x p q =
    let s = right_split g n d c p in
    ap (λ (j : ℕ). right_by g j d) (let e : suc n + m ≡ suc (n + m) = omega arith in e) ∙ right_more g (n + m) d s.0 x s.1 (right_parts g n m s.0 c x s.2 q)

-- where as many swings are made as there are corners, the fan has no last corner, and no first one
no_last : {faces : ℕ} {g : Gluing} → IsGluing faces g → (c d e : Side) → c.face < faces → left_by g (3 * faces) c ≡ Some d → InFan g c e → swing_left g e ≡ None → ⊥
no_last {faces} {g} G c d e h p q none =
    let t = to_leftmost G (fan_trans (fan_sym G (left_by-fan g (3 * faces) c d p)) q) none in
    let w = right_parts g t.0 (3 * faces) e d c (left_back G t.0 d e t.1) (left_back G (3 * faces) c d p) in
    let u = right_passed g (3 * faces) (t.0 + 3 * faces) e c (omega arith) w in
    right_short G e u.0 (left_by-within G t.0 d e (left_by-within G (3 * faces) c d h p) t.1) none u.1

no_first : {faces : ℕ} {g : Gluing} → IsGluing faces g → (c d e : Side) → c.face < faces → left_by g (3 * faces) c ≡ Some d → InFan g c e → swing_right g e ≡ None → ⊥
no_first {faces} {g} G c d e h p q none =
    let t = to_rightmost G q none in
    let w = left_parts g t.0 (3 * faces) e c d (right_back G t.0 c e t.1) p in
    let u = left_passed g (3 * faces) (t.0 + 3 * faces) e d (omega arith) w in
    left_short G e u.0 (right_by-within G t.0 c e h t.1) none u.1

pub fan_is_closed_or_open : FanIsClosedOrOpen
fan_is_closed_or_open faces g G c h = elim (leftmost_tells g (3 * faces) c) [ inl e ↦ inr (opened (leftmost g (3 * faces) c) e.0 e.1 e.2) | inr p ↦ inl (closed (leftmost g (3 * faces) c) p) ]
  where
    closed : (d : Side) → left_by g (3 * faces) c ≡ Some d → IsClosed g c
    closed d p e q = (λ n. no_last G c d e h p q (ap (option_map next) n), λ n. no_first G c d e h p q (ap (option_map prev) n))

    opened : (d : Side) (n : ℕ) → left_by g n c ≡ Some d → swing_left g d ≡ None → IsOpen faces g c
    opened d n p none =
        let w = left_by-within G n c d h p in
        let fan = left_by-fan g n c d p in
        let e = rightmost g (3 * faces) d in
        let t = rightmost_ends G d w none in (
          prev e,
          next d,
          record { within = right_by-within G t.0 d e w t.1; free = right-free g e t.2 },
          record { within = w; free = left-free g d none },
          subst (InFan g c) (sym (next-prev e)) (fan_trans fan (right_by-fan g t.0 d e t.1)),
          subst (InFan g c) (sym (prev-next d)) fan,
        )

pub starts_are_once : StartsOnce
starts_are_once faces g G x y h k p = next_injective x y (starts_once G p (free-right g x h) (free-right g y k))

pub ends_are_once : EndsOnce
ends_are_once faces g G x y h k p = prev_injective x y (ends_once G p (free-left g x h) (free-left g y k))
