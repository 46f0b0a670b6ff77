-- The faces below a number, with the pairs among them: what is built so far where faces come in order, as in reverse decoding (Isenburg
-- and Snoeyink 2001). The words for it are this project's own.
use Rattle.std.specs.Prelude.{◌≡◌, ◌≢◌, ℕ, ◌<◌, cond, nat_lt, Option, Some, None}
use Rattle.corner_table.specs.Sides.{Side, next, prev, Gluing}
use Rattle.corner_table.specs.Fans.{swing_left, InFan}

-- a side of the faces below m, where there is one
abbrev pub kept_below : ℕ → Option Side → Option Side
kept_below m None = None
kept_below m (Some y) = cond (nat_lt y.face m) (Some y) None

-- the pairs whose two faces are below m
abbrev pub prefix : ℕ → Gluing → Gluing
prefix m g x = cond (nat_lt x.face m) (kept_below m (g x)) None

-- swings to the left lead from c to d, at least one of them, over corners of faces below m
pub data LeadsBelow (g : Gluing) (m : ℕ) : Side → Side → Type 0 where
  to_end : {c d : Side} → swing_left g c ≡ Some d → LeadsBelow g m c d
  over : {c d e : Side} → swing_left g c ≡ Some d → d.face < m → LeadsBelow g m d e → LeadsBelow g m c e

-- the fan of c is a ring, and all its other corners are in faces below m
abbrev pub IsSurrounded : Gluing → ℕ → Side → Type 0
IsSurrounded g m c = LeadsBelow g m c c

-- the gap in the faces below m that a corner fills: the sides across the two sides at the corner are free among these faces, and one
-- starts where the other ends
pub record IsGap (g : Gluing) (m : ℕ) (c right left : Side) : Type 0 where
  pub right_is : g (next c) ≡ Some right
  pub left_is : g (prev c) ≡ Some left
  pub apart : right ≢ left
  pub right_below : right.face < m
  pub left_below : left.face < m
  pub right_free : prefix m g right ≡ None
  pub left_free : prefix m g left ≡ None
  pub meets : InFan (prefix m g) (next right) (prev left)
