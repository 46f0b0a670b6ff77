-- Laws on prefixes: what they hold, the gap that a surrounded corner fills, and how one more face changes them.
use Rattle.std.proofs.Common.{◌≡◌, ◌≢◌, ℕ, zero, suc, ◌<◌, ◌≤◌, ◌↔◌, nat_lt, Some, None, ◌⊎◌, inl, inr, sym, refl, ap, ◌∙◌, subst, arith}
use mathlib.Core.Path.{fun_ext}
use Rattle.std.proofs.lemmas.Bool.{cases_lt, cases_eq, cond-true, cond-false, lt-ltb, le-ltb}
use Rattle.corner_table.specs.Sides.{Side, Place, first, second, third, next, prev, Gluing, unglued, IsGluing, IsFree}
use Rattle.corner_table.specs.Fans.{side_before, swing_left, InFan, here, leftwards}
use Rattle.corner_table.specs.Prefixes.{kept_below, prefix, LeadsBelow, to_end, over, IsSurrounded, IsGap}
use Rattle.corner_table.proofs.Places.{option_tells, Some_injective, next-prev, prev-next}
use Rattle.corner_table.proofs.Walks.{left_by, left_by-zero, left_split, left_crosses, crosses-left, to_leftmost, fan_sym}
use Rattle.corner_table.proofs.Boundary.{free-left, side_before_only}

-- a pair of the prefix is a pair of faces below m
pub prefix-tells : (m : ℕ) (g : Gluing) (x y : Side) → prefix m g x ≡ Some y → (x.face < m) × (y.face < m) × (g x ≡ Some y)
prefix-tells m g x y e = elim (cases_lt x.face m) [
  | inl h ↦ kept h (option_tells (g x))
  | inr h ↦ absurd (let no : None ≡ Some y = sym (cond-false (nat_lt x.face m) (kept_below m (g x)) None (le-ltb x.face m h)) ∙ e in cc)
]
  where
    inside : x.face < m → kept_below m (g x) ≡ Some y
    inside h = sym (cond-true (nat_lt x.face m) (kept_below m (g x)) None (lt-ltb x.face m h)) ∙ e

    kept : x.face < m → (g x ≡ None) ⊎ ((z : Side) × (g x ≡ Some z)) → (x.face < m) × (y.face < m) × (g x ≡ Some y)
    kept h (inl n) = absurd (let no : None ≡ Some y = sym (ap (kept_below m) n) ∙ inside h in cc)
    kept h (inr z) = elim (cases_lt z.0.face m) [
      | inl l ↦ (
          let s : z.0 ≡ y = Some_injective z.0 y (sym (ap (kept_below m) z.1 ∙ cond-true (nat_lt z.0.face m) (Some z.0) None (lt-ltb z.0.face m l)) ∙ inside h) in
          subst (λ (w : Side). (x.face < m) × (w.face < m) × (g x ≡ Some w)) s (h, l, z.1))
      | inr l ↦ absurd (let no : None ≡ Some y = sym (ap (kept_below m) z.1 ∙ cond-false (nat_lt z.0.face m) (Some z.0) None (le-ltb z.0.face m l)) ∙ inside h in cc)
    ]

pub tells-prefix : (m : ℕ) (g : Gluing) (x y : Side) → x.face < m → y.face < m → g x ≡ Some y → prefix m g x ≡ Some y
tells-prefix m g x y h k e =
    cond-true (nat_lt x.face m) (kept_below m (g x)) None (lt-ltb x.face m h) ∙ ap (kept_below m) e ∙ cond-true (nat_lt y.face m) (Some y) None (lt-ltb y.face m k)

-- a side that is glued to a later face is free in the prefix
pub prefix-free : (m : ℕ) (g : Gluing) (x y : Side) → g x ≡ Some y → m ≤ y.face → prefix m g x ≡ None
prefix-free m g x y e h = elim (option_tells (prefix m g x)) [
  | inl n ↦ n
  | inr z ↦ absurd (
      let t = prefix-tells m g x z.0 z.1 in
      let s : z.0 ≡ y = Some_injective z.0 y (sym t.2 ∙ e) in
      let f = ap (λ (w : Side). w.face) s in
      let l = t.1 in
      omega arith)
]

-- a prefix is a gluing of its own faces, and of all
pub prefix_within : {faces : ℕ} {g : Gluing} (m : ℕ) → IsGluing faces g → IsGluing m (prefix m g)
prefix_within {faces} {g} m G = record {
  paired = λ x y e. (let t = prefix-tells m g x y e in tells-prefix m g y x t.1 t.0 (G.paired x y t.2));
  within = λ x y e. (let t = prefix-tells m g x y e in t.0);
  apart = λ x y e. (let t = prefix-tells m g x y e in G.apart x y t.2);
}

pub prefix_is : {faces : ℕ} {g : Gluing} (m : ℕ) → IsGluing faces g → IsGluing faces (prefix m g)
prefix_is {faces} {g} m G =
    let own = prefix_within m G in
    record { paired = own.paired; within = λ x y e. G.within x y (prefix-tells m g x y e).2; apart = own.apart }

-- a free side is free in the prefix, and so is a side of a later face
pub prefix_none : (m : ℕ) (g : Gluing) (x : Side) → g x ≡ None → prefix m g x ≡ None
prefix_none m g x e = elim (cases_lt x.face m) [
  | inl h ↦ cond-true _ _ _ (lt-ltb x.face m h) ∙ ap (kept_below m) e
  | inr h ↦ cond-false _ _ _ (le-ltb x.face m h)
]

pub prefix_new : (m : ℕ) (g : Gluing) (x : Side) → m ≤ x.face → prefix m g x ≡ None
prefix_new m g x h = cond-false _ _ _ (le-ltb x.face m h)

-- of all its faces it is the whole
pub prefix_whole : {faces : ℕ} {g : Gluing} → IsGluing faces g → prefix faces g ≡ g
prefix_whole {faces} {g} G = fun_ext (λ x. elim (option_tells (g x)) [
  | inl n ↦ prefix_none faces g x n ∙ sym n
  | inr y ↦ tells-prefix faces g x y.0 (G.within x y.0 y.1) (G.within y.0 x (G.paired x y.0 y.1)) y.1 ∙ sym y.1
])

pub prefix_nothing : (g : Gluing) → prefix 0 g ≡ unglued
prefix_nothing g = fun_ext (λ x. prefix_new 0 g x (omega arith))

-- a swing of the prefix is a swing, to a face below m
left-prefix : (m : ℕ) (g : Gluing) (c d : Side) → swing_left (prefix m g) c ≡ Some d → (d.face < m) × (swing_left g c ≡ Some d)
left-prefix m g c d e =
    let t = prefix-tells m g (next c) (prev d) (left_crosses (prefix m g) c d e) in
    (t.1, crosses-left g c d t.2)

prefix-left : (m : ℕ) (g : Gluing) (c d : Side) → c.face < m → d.face < m → swing_left g c ≡ Some d → swing_left (prefix m g) c ≡ Some d
prefix-left m g c d h k e = crosses-left (prefix m g) c d (tells-prefix m g (next c) (prev d) h k (left_crosses g c d e))

-- the last corner before the end of a walk over faces below m
last_below : (g : Gluing) (m : ℕ) {a c : Side} → LeadsBelow g m a c → a.face < m → (e : Side) × (e.face < m) × (swing_left g e ≡ Some c) × InFan (prefix m g) a e
last_below g m (to_end {c = a} s) h = (a, h, s, here)
last_below g m (over {c = a} {d = b} s k p) h =
    let t = last_below g m p k in
    (t.0, t.1, t.2, leftwards (prefix-left m g a b h k s) t.3)

places_differ : (k : Place) (f : ℕ) → next (record { face = f; place = k }) ≢ prev (record { face = f; place = k })
places_differ first f e = let q = ap (λ (s : Side). s.place) e in cc
places_differ second f e = let q = ap (λ (s : Side). s.place) e in cc
places_differ third f e = let q = ap (λ (s : Side). s.place) e in cc

-- a corner that faces below m surround fills a gap between two of their sides
pub gap : {faces : ℕ} {g : Gluing} (m : ℕ) (c : Side) → IsGluing faces g → m ≤ c.face → IsSurrounded g m c → (right : Side) × (left : Side) × IsGap g m c right left
gap {faces} {g} m c G h L = go L
  where
    go : LeadsBelow g m c c → (right : Side) × (left : Side) × IsGap g m c right left
    go (to_end s) = absurd (G.apart (next c) (prev c) (left_crosses g c c s) refl)
    go (over {d = x} s k p) =
        let t = last_below g m p k in
        let right_is = left_crosses g c x s in
        let left_is = G.paired (next t.0) (prev c) (left_crosses g t.0 c t.2) in (
          prev x,
          next t.0,
          record {
            right_is = right_is;
            left_is = left_is;
            apart = λ e. places_differ c.place c.face (Some_injective (next c) (prev c) (sym (G.paired (next c) (prev x) right_is) ∙ ap g e ∙ G.paired (prev c) (next t.0) left_is));
            right_below = k;
            left_below = t.1;
            right_free = prefix-free m g (prev x) (next c) (G.paired (next c) (prev x) right_is) h;
            left_free = prefix-free m g (next t.0) (prev c) (G.paired (prev c) (next t.0) left_is) h;
            meets = subst (λ (a : Side). InFan (prefix m g) a (prev (next t.0))) (sym (next-prev x)) (subst (InFan (prefix m g) x) (sym (prev-next t.0)) t.3);
          },
        )

-- a more lenient bound
leads_more : {g : Gluing} {m : ℕ} (n : ℕ) {c d : Side} → m ≤ n → LeadsBelow g m c d → LeadsBelow g n c d
leads_more n l (to_end s) = to_end s
leads_more n l (over s h w) = over s (omega arith) (leads_more n l w)

pub surrounded_more : {g : Gluing} {m : ℕ} (n : ℕ) (c : Side) → m ≤ n → IsSurrounded g m c → IsSurrounded g n c
surrounded_more n c l r = leads_more n l r

-- round the boundary, the one side of a gap comes before the other
pub gap_before : {faces : ℕ} {g : Gluing} → IsGluing faces g → (m : ℕ) (c x y : Side) → IsGap g m c x y → y ≡ side_before m (prefix m g) x
gap_before {faces} {g} G m c x y p =
    let x_free : IsFree m (prefix m g) x = record { within = p.right_below; free = p.right_free } in
    let y_free : IsFree m (prefix m g) y = record { within = p.left_below; free = p.left_free } in
    side_before_only (prefix_within m G) y x y_free (record { free = x_free; meets = fan_sym (prefix_within m G) p.meets })

-- a walk of the prefix and one swing more
leads_on : (g : Gluing) (m n : ℕ) (a e c : Side) → left_by (prefix m g) n a ≡ Some e → swing_left g e ≡ Some c → LeadsBelow g m a c
leads_on g m zero a e c p s = to_end (ap (swing_left g) (left_by-zero (prefix m g) a e p) ∙ s)
leads_on g m (suc n) a e c p s =
    let t = left_split (prefix m g) n a e p in
    let q = left-prefix m g a t.0 t.1 in
    over q.1 q.0 (leads_on g m n t.0 e c t.2 s)

-- a corner between two sides of faces below m, one of which starts where the other ends, is surrounded by them; so where it isn't,
-- these are two fans
pub no_gap : {faces : ℕ} {g : Gluing} (m : ℕ) (c right left : Side) → IsGluing faces g → m ≤ c.face → g (next c) ≡ Some right → g (prev c) ≡ Some left → right.face < m → InFan (prefix m g) (next right) (prev left) → IsSurrounded g m c
no_gap {faces} {g} m c right left G h r l k p =
    let ends : swing_left (prefix m g) (prev left) ≡ None = free-left (prefix m g) left (prefix-free m g left (prev c) (G.paired (prev c) left l) h) in
    let w = to_leftmost (prefix_is m G) p ends in
    let enters : swing_left g c ≡ Some (next right) = crosses-left g c (next right) (r ∙ ap {A = Side} Some (sym (prev-next right))) in
    let returns : swing_left g (prev left) ≡ Some c = crosses-left g (prev left) c (ap g (next-prev left) ∙ G.paired (prev c) left l) in
    over enters k (leads_on g m w.0 (next right) (prev left) c w.1 returns)

-- one face more: its pairs with faces below it come to those before
pub prefix_more : {faces : ℕ} {g : Gluing} (m : ℕ) → IsGluing faces g → (x y : Side) →
    (prefix (suc m) g x ≡ Some y) ↔ ((prefix m g x ≡ Some y) ⊎ ((g x ≡ Some y) × (((x.face ≡ m) × (y.face < m)) ⊎ ((y.face ≡ m) × (x.face < m)))))
prefix_more {faces} {g} m G x y = (old, new)
  where
    old : prefix (suc m) g x ≡ Some y → (prefix m g x ≡ Some y) ⊎ ((g x ≡ Some y) × (((x.face ≡ m) × (y.face < m)) ⊎ ((y.face ≡ m) × (x.face < m))))
    old e =
        let t = prefix-tells (suc m) g x y e in
        let h = t.0 in
        let k = t.1 in
        let ne = G.apart x y t.2 in
        elim (cases_eq x.face m) [
          | inl p ↦ inr (t.2, inl (p, omega arith))
          | inr p ↦ elim (cases_eq y.face m) [
            | inl q ↦ inr (t.2, inr (q, omega arith))
            | inr q ↦ inl (tells-prefix m g x y (omega arith) (omega arith) t.2)
          ]
        ]

    new : (prefix m g x ≡ Some y) ⊎ ((g x ≡ Some y) × (((x.face ≡ m) × (y.face < m)) ⊎ ((y.face ≡ m) × (x.face < m)))) → prefix (suc m) g x ≡ Some y
    new (inl e) = let t = prefix-tells m g x y e in let h = t.0 in let k = t.1 in tells-prefix (suc m) g x y (omega arith) (omega arith) t.2
    new (inr p) = elim p.1 [
      | inl q ↦ (let h = q.0 in let k = q.1 in tells-prefix (suc m) g x y (omega arith) (omega arith) p.0)
      | inr q ↦ (let h = q.0 in let k = q.1 in tells-prefix (suc m) g x y (omega arith) (omega arith) p.0)
    ]

-- a side keeps what it has where neither it nor what lies across it is newly below
pub prefix_unchanged : (m : ℕ) (g : Gluing) (x : Side) → ((y : Side) → g x ≡ Some y → x.face ≡ m → y.face ≤ m → ⊥) → ((y : Side) → g x ≡ Some y → y.face ≡ m → x.face ≤ m → ⊥) → prefix (suc m) g x ≡ prefix m g x
prefix_unchanged m g x own across = elim (option_tells (g x)) [
  | inl n ↦ prefix_none (suc m) g x n ∙ sym (prefix_none m g x n)
  | inr y ↦ elim (cases_lt x.face (suc m)) [
    | inr h ↦ prefix_new (suc m) g x h ∙ sym (prefix_new m g x (omega arith))
    | inl h ↦ elim (cases_lt y.0.face (suc m)) [
      | inr k ↦ prefix-free (suc m) g x y.0 y.1 k ∙ sym (prefix-free m g x y.0 y.1 (omega arith))
      | inl k ↦ elim (cases_eq x.face m) [
        | inl e ↦ absurd (own y.0 y.1 e (omega arith))
        | inr e ↦ elim (cases_eq y.0.face m) [
          | inl f ↦ absurd (across y.0 y.1 f (omega arith))
          | inr f ↦ tells-prefix (suc m) g x y.0 h k y.1 ∙ sym (tells-prefix m g x y.0 (omega arith) (omega arith) y.1)
        ]
      ]
    ]
  ]
]
