-- The boundary: from each free side one free side follows, and one comes before it.
use Rattle.std.proofs.Common.{◌≡◌, ℕ, zero, suc, ◌*◌, ◌<◌, ◌≤◌, Option, Some, None, ◌⊎◌, inl, inr, sym, refl, ap, ◌∙◌, subst, arith, option_map}
use Rattle.corner_table.specs.Sides.{Side, next, prev, number, Gluing, IsGluing, IsFree}
use Rattle.corner_table.specs.Fans.{swing_left, swing_right, InFan, leftmost, rightmost, side_before, side_after, Follows, left_by, right_by}
use Rattle.corner_table.proofs.Places.{option_tells, next-prev, prev-next, next_injective, prev_injective}
use Rattle.corner_table.proofs.Numbers.{number-lt, number_injective, no_room}
use Rattle.corner_table.proofs.Walks.{left_by-zero, right_by-zero, left_none, right_none, left_more, right_more, left_split, right_split, left_back, right_back, left_by-fan, right_by-fan, right_count, left_count, left-within, right-within, ends_once, starts_once, fan_sym, fan_trans}

leftmost-none : (g : Gluing) (n : ℕ) (c : Side) → swing_left g c ≡ None → leftmost g (suc n) c ≡ c
unfolding leftmost
leftmost-none g n c h = rw (h, leftmost) refl

leftmost-some : (g : Gluing) (n : ℕ) (c d : Side) → swing_left g c ≡ Some d → leftmost g (suc n) c ≡ leftmost g n d
unfolding leftmost
leftmost-some g n c d h = rw (h, leftmost) refl

rightmost-none : (g : Gluing) (n : ℕ) (c : Side) → swing_right g c ≡ None → rightmost g (suc n) c ≡ c
unfolding rightmost
rightmost-none g n c h = rw (h, rightmost) refl

rightmost-some : (g : Gluing) (n : ℕ) (c d : Side) → swing_right g c ≡ Some d → rightmost g (suc n) c ≡ rightmost g n d
unfolding rightmost
rightmost-some g n c d h = rw (h, rightmost) refl

leftmost-zero : (g : Gluing) (c : Side) → leftmost g zero c ≡ c
unfolding leftmost
leftmost-zero g c = refl

rightmost-zero : (g : Gluing) (c : Side) → rightmost g zero c ≡ c
unfolding rightmost
rightmost-zero g c = refl

-- n swings to the left end at a last corner, or all of them are made
abbrev pub LeftEnds : Gluing → ℕ → Side → Side → Type 0
LeftEnds g n c d = ((m : ℕ) × (left_by g m c ≡ Some d) × (swing_left g d ≡ None)) ⊎ (left_by g n c ≡ Some d)

abbrev pub RightEnds : Gluing → ℕ → Side → Side → Type 0
RightEnds g n c d = ((m : ℕ) × (right_by g m c ≡ Some d) × (swing_right g d ≡ None)) ⊎ (right_by g n c ≡ Some d)

pub leftmost_tells : (g : Gluing) (n : ℕ) (c : Side) → LeftEnds g n c (leftmost g n c)
leftmost_tells g zero c = inr (left_none g c ∙ ap {A = Side} Some (sym (leftmost-zero g c)))
leftmost_tells g (suc n) c =
    elim (option_tells (swing_left g c)) [
      | inl h ↦ subst (LeftEnds g (suc n) c) (sym (leftmost-none g n c h)) (inl (zero, left_none g c, h))
      | inr d ↦ subst (LeftEnds g (suc n) c) (sym (leftmost-some g n c d.0 d.1)) (more d.0 d.1 (leftmost_tells g n d.0))
    ]
  where
    more : (d : Side) → swing_left g c ≡ Some d → LeftEnds g n d (leftmost g n d) → LeftEnds g (suc n) c (leftmost g n d)
    more d s t = elim t [
      | inl e ↦ inl (suc e.0, left_more g e.0 c d (leftmost g n d) s e.1, e.2)
      | inr p ↦ inr (left_more g n c d (leftmost g n d) s p)
    ]

pub rightmost_tells : (g : Gluing) (n : ℕ) (c : Side) → RightEnds g n c (rightmost g n c)
rightmost_tells g zero c = inr (right_none g c ∙ ap {A = Side} Some (sym (rightmost-zero g c)))
rightmost_tells g (suc n) c =
    elim (option_tells (swing_right g c)) [
      | inl h ↦ subst (RightEnds g (suc n) c) (sym (rightmost-none g n c h)) (inl (zero, right_none g c, h))
      | inr d ↦ subst (RightEnds g (suc n) c) (sym (rightmost-some g n c d.0 d.1)) (more d.0 d.1 (rightmost_tells g n d.0))
    ]
  where
    more : (d : Side) → swing_right g c ≡ Some d → RightEnds g n d (rightmost g n d) → RightEnds g (suc n) c (rightmost g n d)
    more d s t = elim t [
      | inl e ↦ inl (suc e.0, right_more g e.0 c d (rightmost g n d) s e.1, e.2)
      | inr p ↦ inr (right_more g n c d (rightmost g n d) s p)
    ]

-- a walk has been at each number of swings up to its own
pub left_passed : (g : Gluing) (i n : ℕ) (c d : Side) → i ≤ n → left_by g n c ≡ Some d → (x : Side) × (left_by g i c ≡ Some x)
left_passed g zero n c d h p = (c, left_none g c)
left_passed g (suc i) zero c d h p = absurd (omega arith)
left_passed g (suc i) (suc n) c d h p =
    let m = left_split g n c d p in
    let t = left_passed g i n m.0 d (omega arith) m.2 in
    (t.0, left_more g i c m.0 t.0 m.1 t.1)

pub right_passed : (g : Gluing) (i n : ℕ) (c d : Side) → i ≤ n → right_by g n c ≡ Some d → (x : Side) × (right_by g i c ≡ Some x)
right_passed g zero n c d h p = (c, right_none g c)
right_passed g (suc i) zero c d h p = absurd (omega arith)
right_passed g (suc i) (suc n) c d h p =
    let m = right_split g n c d p in
    let t = right_passed g i n m.0 d (omega arith) m.2 in
    (t.0, right_more g i c m.0 t.0 m.1 t.1)

pub left_by-within : {faces : ℕ} {g : Gluing} → IsGluing faces g → (n : ℕ) (c d : Side) → c.face < faces → left_by g n c ≡ Some d → d.face < faces
left_by-within {faces} {g} G zero c d h p = subst (λ (x : Side). x.face < faces) (left_by-zero g c d p) h
left_by-within {faces} {g} G (suc n) c d h p =
    let m = left_split g n c d p in
    left_by-within G n m.0 d (left-within G c m.0 m.1) m.2

pub right_by-within : {faces : ℕ} {g : Gluing} → IsGluing faces g → (n : ℕ) (c d : Side) → c.face < faces → right_by g n c ≡ Some d → d.face < faces
right_by-within {faces} {g} G zero c d h p = subst (λ (x : Side). x.face < faces) (right_by-zero g c d p) h
right_by-within {faces} {g} G (suc n) c d h p =
    let m = right_split g n c d p in
    right_by-within G n m.0 d (right-within G c m.0 m.1) m.2

number_or : Option Side → ℕ
number_or None = 0
number_or (Some x) = number x

number_or-some : (o : Option Side) (x : Side) → o ≡ Some x → number_or o ≡ number x
unfolding number_or
number_or-some o x e = ap number_or e

-- a walk to the left from a first corner passes no corner twice, so it is shorter than the number of corners
pub left_short : {faces : ℕ} {g : Gluing} → IsGluing faces g → (c d : Side) → c.face < faces → swing_right g c ≡ None → left_by g (3 * faces) c ≡ Some d → ⊥
left_short {faces} {g} G c d h k p = no_room (3 * faces) f small apart
  where
    f : ℕ → ℕ
    f i = number_or (left_by g i c)

    small : (i : ℕ) → i ≤ 3 * faces → number_or (left_by g i c) < 3 * faces
    small i l =
        let t = left_passed g i (3 * faces) c d l p in
        let e = number_or-some (left_by g i c) t.0 t.1 in
        let b = number-lt t.0 faces (left_by-within G i c t.0 h t.1) in
        omega arith

    apart : (i j : ℕ) → i ≤ 3 * faces → j ≤ 3 * faces → number_or (left_by g i c) ≡ number_or (left_by g j c) → i ≡ j
    apart i j l m e =
        let t = left_passed g i (3 * faces) c d l p in
        let u = left_passed g j (3 * faces) c d m p in
        let q : t.0 ≡ u.0 = number_injective t.0 u.0 (sym (number_or-some (left_by g i c) t.0 t.1) ∙ e ∙ number_or-some (left_by g j c) u.0 u.1) in
        right_count g i j u.0 c k (left_back G i c u.0 (t.1 ∙ ap {A = Side} Some q)) (left_back G j c u.0 u.1)

pub right_short : {faces : ℕ} {g : Gluing} → IsGluing faces g → (c d : Side) → c.face < faces → swing_left g c ≡ None → right_by g (3 * faces) c ≡ Some d → ⊥
right_short {faces} {g} G c d h k p = no_room (3 * faces) f small apart
  where
    f : ℕ → ℕ
    f i = number_or (right_by g i c)

    small : (i : ℕ) → i ≤ 3 * faces → number_or (right_by g i c) < 3 * faces
    small i l =
        let t = right_passed g i (3 * faces) c d l p in
        let e = number_or-some (right_by g i c) t.0 t.1 in
        let b = number-lt t.0 faces (right_by-within G i c t.0 h t.1) in
        omega arith

    apart : (i j : ℕ) → i ≤ 3 * faces → j ≤ 3 * faces → number_or (right_by g i c) ≡ number_or (right_by g j c) → i ≡ j
    apart i j l m e =
        let t = right_passed g i (3 * faces) c d l p in
        let u = right_passed g j (3 * faces) c d m p in
        let q : t.0 ≡ u.0 = number_injective t.0 u.0 (sym (number_or-some (right_by g i c) t.0 t.1) ∙ e ∙ number_or-some (right_by g j c) u.0 u.1) in
        left_count g i j u.0 c k (right_back G i c u.0 (t.1 ∙ ap {A = Side} Some q)) (right_back G j c u.0 u.1)

-- from the first corner of a fan, leftmost gives its last corner
pub leftmost_ends : {faces : ℕ} {g : Gluing} → IsGluing faces g → (c : Side) → c.face < faces → swing_right g c ≡ None → (n : ℕ) × (left_by g n c ≡ Some (leftmost g (3 * faces) c)) × (swing_left g (leftmost g (3 * faces) c) ≡ None)
leftmost_ends {faces} {g} G c h k =
    elim (leftmost_tells g (3 * faces) c) [ inl e ↦ e | inr p ↦ absurd (left_short G c (leftmost g (3 * faces) c) h k p) ]

pub rightmost_ends : {faces : ℕ} {g : Gluing} → IsGluing faces g → (c : Side) → c.face < faces → swing_left g c ≡ None → (n : ℕ) × (right_by g n c ≡ Some (rightmost g (3 * faces) c)) × (swing_right g (rightmost g (3 * faces) c) ≡ None)
rightmost_ends {faces} {g} G c h k =
    elim (rightmost_tells g (3 * faces) c) [ inl e ↦ e | inr p ↦ absurd (right_short G c (rightmost g (3 * faces) c) h k p) ]

-- a side is free exactly where no swing crosses it
pub free-left : (g : Gluing) (x : Side) → g x ≡ None → swing_left g (prev x) ≡ None
free-left g x e = ap (option_map next) (ap g (next-prev x) ∙ e)

pub free-right : (g : Gluing) (x : Side) → g x ≡ None → swing_right g (next x) ≡ None
free-right g x e = ap (option_map prev) (ap g (prev-next x) ∙ e)

none_inside : (f : Side → Side) (o : Option Side) → option_map f o ≡ None → o ≡ None
none_inside f None e = refl
none_inside f (Some x) e = cc

pub left-free : (g : Gluing) (d : Side) → swing_left g d ≡ None → g (next d) ≡ None
left-free g d e = none_inside next (g (next d)) e

pub right-free : (g : Gluing) (d : Side) → swing_right g d ≡ None → g (prev d) ≡ None
right-free g d e = none_inside prev (g (prev d)) e

-- the free side that follows a: it is one, and the only one
pub side_after-follows : {faces : ℕ} {g : Gluing} → IsGluing faces g → (a : Side) → IsFree faces g a → Follows faces g a (side_after faces g a)
side_after-follows {faces} {g} G a A =
    let d = rightmost g (3 * faces) (prev a) in
    let t = rightmost_ends G (prev a) A.within (free-left g a A.free) in
    record {
      free = record { within = right_by-within G t.0 (prev a) d A.within t.1; free = right-free g d t.2 };
      meets = subst (InFan g (prev a)) (sym (next-prev d)) (right_by-fan g t.0 (prev a) d t.1);
    }

pub side_after_only : {faces : ℕ} {g : Gluing} → IsGluing faces g → (a b : Side) → IsFree faces g a → Follows faces g a b → b ≡ side_after faces g a
side_after_only {faces} {g} G a b A B =
    let f = side_after-follows G a A in
    next_injective b (side_after faces g a)
    (starts_once G (fan_trans (fan_sym G B.meets) f.meets) (free-right g b B.free.free) (free-right g (side_after faces g a) f.free.free))

-- the free side before a: a follows it, and no other has a after it
pub side_before-follows : {faces : ℕ} {g : Gluing} → IsGluing faces g → (a : Side) → IsFree faces g a → IsFree faces g (side_before faces g a) × Follows faces g (side_before faces g a) a
side_before-follows {faces} {g} G a A =
    let d = leftmost g (3 * faces) (next a) in
    let t = leftmost_ends G (next a) A.within (free-right g a A.free) in (
      record { within = left_by-within G t.0 (next a) d A.within t.1; free = left-free g d t.2 },
      record { free = A; meets = subst (λ x. InFan g x (next a)) (sym (prev-next d)) (fan_sym G (left_by-fan g t.0 (next a) d t.1)) },
    )

pub side_before_only : {faces : ℕ} {g : Gluing} → IsGluing faces g → (z a : Side) → IsFree faces g z → Follows faces g z a → z ≡ side_before faces g a
side_before_only {faces} {g} G z a Z A =
    let f = side_before-follows G a A.free in
    prev_injective z (side_before faces g a)
    (ends_once G (fan_trans A.meets (fan_sym G f.1.meets)) (free-left g z Z.free) (free-left g (side_before faces g a) f.0.free))
