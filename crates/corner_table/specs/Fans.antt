-- The corners that meet at one vertex: fans, their ends, and the boundary from one free side to the next (swings on a corner table,
-- after Rossignac 1999).
use Rattle.std.specs.Prelude.{◌≡◌, ℕ, zero, suc, ◌*◌, ◌<◌, ◌⊎◌, Bool, true, false, ◌||◌, cond, List, [], ◌∷◌, ◌++◌, Option, Some, None}
use Rattle.std.specs.Prelude.{option_map}
use Rattle.corner_table.specs.Sides.{Side, first, second, third, side, next, prev, same, Gluing, IsGluing, IsFree}

-- the next corner to the left round c's vertex: across the side after c, the corner after the one found there
abbrev pub swing_left : Gluing → Side → Option Side
swing_left g c = option_map next (g (next c))

-- the next corner to the right: across the side before c, the corner before the one found there
abbrev pub swing_right : Gluing → Side → Option Side
swing_right g c = option_map prev (g (prev c))

-- the corner n swings to the left of c
unfoldable pub left_by : Gluing → ℕ → Side → Option Side
left_by g zero c = Some c
left_by g (suc n) c = elim (swing_left g c) [ None ↦ None | Some d ↦ left_by g n d ]

-- the corner n swings to the right of c
unfoldable pub right_by : Gluing → ℕ → Side → Option Side
right_by g zero c = Some c
right_by g (suc n) c = elim (swing_right g c) [ None ↦ None | Some d ↦ right_by g n d ]

-- two corners lie in one fan: a chain of swings leads from one to the other
pub data InFan (g : Gluing) : Side → Side → Type 0 where
  here : {c : Side} → InFan g c c
  leftwards : {c d e : Side} → swing_left g c ≡ Some d → InFan g d e → InFan g c e
  rightwards : {c d e : Side} → swing_right g c ≡ Some d → InFan g d e → InFan g c e

-- the corner that at most n swings to the left lead to: the last of the fan, where it has one and n is large enough
unfoldable pub leftmost : Gluing → ℕ → Side → Side
leftmost g zero c = c
leftmost g (suc n) c = elim (swing_left g c) [ None ↦ c | Some d ↦ leftmost g n d ]

-- the same to the right
unfoldable pub rightmost : Gluing → ℕ → Side → Side
rightmost g zero c = c
rightmost g (suc n) c = elim (swing_right g c) [ None ↦ c | Some d ↦ rightmost g n d ]

-- round the boundary: the free side that ends where the free side a starts
abbrev pub side_before : ℕ → Gluing → Side → Side
side_before faces g a = next (leftmost g (3 * faces) (next a))

-- round the boundary: the free side that starts where the free side a ends
abbrev pub side_after : ℕ → Gluing → Side → Side
side_after faces g a = prev (rightmost g (3 * faces) (prev a))

-- free side b starts at the fan where free side a ends
pub record Follows (faces : ℕ) (g : Gluing) (a b : Side) : Type 0 where
  pub free : IsFree faces g b
  pub meets : InFan g (prev a) (next b)

-- a fan meets a boundary: a free side starts or ends at one of its corners
pub record MeetsBoundary (g : Gluing) (c : Side) : Type 0 where
  pub corner : Side
  pub in_fan : InFan g c corner
  pub free : (g (next corner) ≡ None) ⊎ (g (prev corner) ≡ None)

-- the three corners of each face lie in three fans
pub record HasThreeFans (faces : ℕ) (g : Gluing) : Type 0 where
  pub at_next : (c : Side) → c.face < faces → InFan g c (next c) → ⊥

-- a proper surface: three fans to a face, and the corners opposite to the two sides of a pair lie in two fans
pub record IsProper (faces : ℕ) (g : Gluing) : Type 0 where
  pub gluing : IsGluing faces g
  pub three_fans : HasThreeFans faces g
  pub opposite : (x y : Side) → g x ≡ Some y → InFan g x y → ⊥

-- whether at most n swings to the left lead from c to d
unfoldable pub walks_left : Gluing → ℕ → Side → Side → Bool
walks_left g zero c d = same c d
walks_left g (suc n) c d = cond (same c d) true (elim (swing_left g c) [ None ↦ false | Some e ↦ walks_left g n e d ])

-- the same to the right
unfoldable pub walks_right : Gluing → ℕ → Side → Side → Bool
walks_right g zero c d = same c d
walks_right g (suc n) c d = cond (same c d) true (elim (swing_right g c) [ None ↦ false | Some e ↦ walks_right g n e d ])

-- the test of one fan: one of the two walks from c finds d
abbrev pub meets : ℕ → Gluing → Side → Side → Bool
meets faces g c d = walks_left g (3 * faces) c d || walks_right g (3 * faces) c d

-- the corners of the faces below a number, which are their sides too
unfoldable pub corners_of : ℕ → List Side
corners_of zero = []
corners_of (suc f) = corners_of f ++ (side f first ∷ side f second ∷ side f third ∷ [])
