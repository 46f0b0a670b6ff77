-- Turns, folds and whole moves: what is moved comes back.
use Rattle.std.proofs.Common.{◌≡◌, ℕ, zero, suc, ◌-◌, ◌%◌, ◌<◌, ℤ, pos, ◌+ℤ◌, ◌-ℤ◌, ◌<ℤ◌, ◌≤ℤ◌, neg_ℤ, Bool, true, false, ◌∙◌, ap, refl, arith, if◌then◌else◌}
use Rattle.std.proofs.lemmas.Int.{ints, by_lt_z}
use Rattle.octahedron.specs.declared.points.Point.{Point}
use Rattle.octahedron.specs.Square.{point, IsIn, flip, canonical, is_outside, IsCanonical, IsValue}
use Rattle.octahedron.specs.Corrections.{IsBottomLeft, turn, quarters, folded, lifted, flipped_as, quarters_of, moved, moved_back, restored, correction, spelled}
use Rattle.octahedron.proofs.Flipping.{flip-twice, IsIn-flip, point-same}

pub quarters-few : (p : Point) → quarters p < 4
unfolding quarters
quarters-few p = grind (arith, ints)

-- a turn stays in the square
pub IsIn-turn : (c : ℤ) (r : ℕ) (p : Point) → IsIn c p → IsIn c (turn r p)
IsIn-turn c zero p i = i
IsIn-turn c (suc zero) p i = record { left = omega (arith, ints, i.below); right = omega (arith, ints, i.above); below = omega (arith, ints, i.right); above = omega (arith, ints, i.left) }
IsIn-turn c (suc (suc zero)) p i = record { left = omega (arith, ints, i.right); right = omega (arith, ints, i.left); below = omega (arith, ints, i.above); above = omega (arith, ints, i.below) }
IsIn-turn c (suc (suc (suc r))) p i = record { left = omega (arith, ints, i.above); right = omega (arith, ints, i.below); below = omega (arith, ints, i.left); above = omega (arith, ints, i.right) }

-- a turn, and the turn that goes on to a whole one
pub turn-back : (r : ℕ) (p : Point) → r < 4 → turn ((4 - r) % 4) (turn r p) ≡ p
turn-back zero p h = refl
turn-back (suc zero) p h = point-same (neg_ℤ (neg_ℤ p.s)) p.s p.t p.t (omega (arith, ints)) refl
turn-back (suc (suc zero)) p h = point-same (neg_ℤ (neg_ℤ p.s)) p.s (neg_ℤ (neg_ℤ p.t)) p.t (omega (arith, ints)) (omega (arith, ints))
turn-back (suc (suc (suc zero))) p h = point-same p.s p.s (neg_ℤ (neg_ℤ p.t)) p.t refl (omega (arith, ints))
turn-back (suc (suc (suc (suc r)))) p h = absurd (omega arith)

quarters-left_high : (p : Point) → p.s <ℤ pos 0 → pos 0 <ℤ p.t → quarters p ≡ 3
unfolding quarters
quarters-left_high p hs ht = grind (arith, ints)

quarters-left : (p : Point) → p.s <ℤ pos 0 → p.t ≤ℤ pos 0 → quarters p ≡ 0
unfolding quarters
quarters-left p hs ht = grind (arith, ints)

quarters-right_low : (p : Point) → pos 0 <ℤ p.s → p.t <ℤ pos 0 → quarters p ≡ 1
unfolding quarters
quarters-right_low p hs ht = grind (arith, ints)

quarters-right : (p : Point) → pos 0 <ℤ p.s → pos 0 ≤ℤ p.t → quarters p ≡ 2
unfolding quarters
quarters-right p hs ht = grind (arith, ints)

quarters-high : (p : Point) → p.s ≤ℤ pos 0 → pos 0 ≤ℤ p.s → pos 0 <ℤ p.t → quarters p ≡ 3
unfolding quarters
quarters-high p hs hs' ht = grind (arith, ints)

quarters-low : (p : Point) → p.s ≤ℤ pos 0 → pos 0 ≤ℤ p.s → p.t <ℤ pos 0 → quarters p ≡ 1
unfolding quarters
quarters-low p hs hs' ht = grind (arith, ints)

quarters-middle : (p : Point) → p.s ≤ℤ pos 0 → pos 0 ≤ℤ p.s → p.t ≤ℤ pos 0 → pos 0 ≤ℤ p.t → quarters p ≡ 0
unfolding quarters
quarters-middle p hs hs' ht ht' = grind (arith, ints)

low-by : (p : Point) (r : ℕ) → quarters p ≡ r → IsBottomLeft (turn r p) → IsBottomLeft (turn (quarters p) p)
low-by p r is low = rw is low

pub IsLow-turn : (p : Point) → IsBottomLeft (turn (quarters p) p)
IsLow-turn p =
    by_lt_z p.s (pos 0)
    (λ left. by_lt_z (pos 0) p.t
    (λ high. low-by p 3 (quarters-left_high p left high) (record { s = omega (arith, ints); t = omega (arith, ints) }))
    (λ low. low-by p 0 (quarters-left p left low) (record { s = omega (arith, ints); t = omega (arith, ints) })))
    (λ right. by_lt_z (pos 0) p.s
    (λ far. by_lt_z p.t (pos 0)
    (λ low. low-by p 1 (quarters-right_low p far low) (record { s = omega (arith, ints); t = omega (arith, ints) }))
    (λ high. low-by p 2 (quarters-right p far high) (record { s = omega (arith, ints); t = omega (arith, ints) })))
    (λ near. by_lt_z (pos 0) p.t
    (λ high. low-by p 3 (quarters-high p near right high) (record { s = omega (arith, ints); t = omega (arith, ints) }))
    (λ under. by_lt_z p.t (pos 0)
    (λ low. low-by p 1 (quarters-low p near right low) (record { s = omega (arith, ints); t = omega (arith, ints) }))
    (λ over. low-by p 0 (quarters-middle p near right under over) (record { s = omega (arith, ints); t = omega (arith, ints) })))))

-- numbers alone: a difference that is lifted, added and folded
pub folded-lifted : (c x v : ℤ) → neg_ℤ c ≤ℤ x → x ≤ℤ pos 0 → neg_ℤ c ≤ℤ v → v ≤ℤ c → folded c (x +ℤ lifted c (v -ℤ x)) ≡ v
folded-lifted c x v xl xh vl vh = grind (arith, ints)

pub lifted-least : (c x v : ℤ) → neg_ℤ c ≤ℤ x → x ≤ℤ pos 0 → neg_ℤ c ≤ℤ v → v ≤ℤ c → pos 0 ≤ℤ lifted c (v -ℤ x)
lifted-least c x v xl xh vl vh = grind (arith, ints)

pub lifted-greatest : (c x v : ℤ) → neg_ℤ c ≤ℤ x → x ≤ℤ pos 0 → neg_ℤ c ≤ℤ v → v ≤ℤ c → lifted c (v -ℤ x) ≤ℤ (c +ℤ c)
lifted-greatest c x v xl xh vl vh = grind (arith, ints)

-- ---- flips as a point asks for them

flipped-twice_by : (c : ℤ) (v : Point) (b : Bool) → IsIn c v → pos 0 <ℤ c
    → (if b then flip c (if b then flip c v else v) else (if b then flip c v else v)) ≡ (if b then canonical c v else v)
flipped-twice_by c v true i hc = flip-twice c v i hc
flipped-twice_by c v false i hc = refl

flipped-twice : (c : ℤ) (p v : Point) → IsIn c v → pos 0 <ℤ c → flipped_as c p (flipped_as c p v) ≡ spelled c p v
flipped-twice c p v i hc = flipped-twice_by c v (is_outside c p) i hc

IsIn-flipped_by : (c : ℤ) (v : Point) (b : Bool) → IsIn c v → IsIn c (if b then flip c v else v)
IsIn-flipped_by c v true i = IsIn-flip c v i
IsIn-flipped_by c v false i = i

IsIn-flipped_as : (c : ℤ) (p v : Point) → IsIn c v → IsIn c (flipped_as c p v)
IsIn-flipped_as c p v i = IsIn-flipped_by c v (is_outside c p) i

spelled-canonical_by : (c : ℤ) (v : Point) (b : Bool) → canonical c v ≡ v → (if b then canonical c v else v) ≡ v
spelled-canonical_by c v true is = is
spelled-canonical_by c v false is = refl

-- ---- whole moves

pub IsIn-moved : (c : ℤ) (p v : Point) → IsIn c v → IsIn c (moved c p v)
IsIn-moved c p v i = IsIn-turn c (quarters_of c p) (flipped_as c p v) (IsIn-flipped_as c p v i)

pub IsLow-moved : (c : ℤ) (p : Point) → IsBottomLeft (moved c p p)
IsLow-moved c p = IsLow-turn (flipped_as c p p)

-- what is moved comes back in the spelling of the prediction
pub moved_back-moved : (c : ℤ) (p v : Point) → IsIn c v → pos 0 <ℤ c → moved_back c p (moved c p v) ≡ spelled c p v
moved_back-moved c p v i hc =
    ap (flipped_as c p) (turn-back (quarters_of c p) (flipped_as c p v) (quarters-few (flipped_as c p p))) ∙ flipped-twice c p v i hc

-- ---- corrections

pub IsValue-correction : (c : ℤ) (p v : Point) → IsIn c p → IsIn c v → IsValue c (correction c p v)
IsValue-correction c p v ip iv =
    let x = IsIn-moved c p p ip in
    let low = IsLow-moved c p in
    let y = IsIn-moved c p v iv in
    record {
      s_least = lifted-least c (moved c p p).s (moved c p v).s x.left low.s y.left y.right;
      s_greatest = lifted-greatest c (moved c p p).s (moved c p v).s x.left low.s y.left y.right;
      t_least = lifted-least c (moved c p p).t (moved c p v).t x.below low.t y.below y.above;
      t_greatest = lifted-greatest c (moved c p p).t (moved c p v).t x.below low.t y.below y.above;
    }

-- the correction of a point restores it
pub restored-correction : (c : ℤ) (p v : Point) → pos 0 <ℤ c → IsIn c p → IsIn c v → restored c p (correction c p v) ≡ spelled c p v
restored-correction c p v hc ip iv =
    let x = IsIn-moved c p p ip in
    let low = IsLow-moved c p in
    let y = IsIn-moved c p v iv in
    ap (moved_back c p) (point-same _ _ _ _
    (folded-lifted c (moved c p p).s (moved c p v).s x.left low.s y.left y.right)
    (folded-lifted c (moved c p p).t (moved c p v).t x.below low.t y.below y.above))
    ∙ moved_back-moved c p v iv hc

pub restored-canonical : (c : ℤ) (p v : Point) → pos 0 <ℤ c → IsIn c p → IsIn c v → IsCanonical c v → restored c p (correction c p v) ≡ v
restored-canonical c p v hc ip iv is = restored-correction c p v hc ip iv ∙ spelled-canonical_by c v (is_outside c p) is

pub turn_inside : (c : ℤ) (r : ℕ) (p q : Point) → IsIn c p → q ≡ turn r p → IsIn c q
turn_inside c r p q i is = rw is (IsIn-turn c r p i)

-- ---- the code's steps

pub restored_is : (c : ℤ) (p d : Point) (o : Bool) (r : ℕ) (base x y : Point) → o ≡ is_outside c p → r ≡ quarters_of c p → base ≡ moved c p p
    → x ≡ point (folded c (base.s +ℤ d.s)) (folded c (base.t +ℤ d.t))
    → y ≡ (if o then flip c (turn ((4 - r) % 4) x) else turn ((4 - r) % 4) x) → y ≡ restored c p d
restored_is c p d o r base x y eo er eb ex ey = rw (ey, ex, eb, eo, er) refl

pub correction_is : (c : ℤ) (p v : Point) (o : Bool) (r : ℕ) (base there y : Point) → o ≡ is_outside c p → r ≡ quarters_of c p → base ≡ moved c p p
    → there ≡ turn r (if o then flip c v else v)
    → y ≡ point (lifted c (there.s -ℤ base.s)) (lifted c (there.t -ℤ base.t)) → y ≡ correction c p v
correction_is c p v o r base there y eo er eb et ey = rw (ey, et, eb, eo, er) refl

pub low_is : (p q : Point) (r : ℕ) → r ≡ quarters p → q ≡ turn r p → IsBottomLeft q
low_is p q r er eq = rw (eq, er) (IsLow-turn p)
