-- The parallelograms round the vertex of an entry (constrained multi-parallelogram prediction of the Draco Bitstream Specification 2.2,
-- section "Mesh Constrained Multi Parallelogram Prediction"; swings on a corner table, after Rossignac 1999).
use Rattle.std.specs.Prelude.{ℕ, zero, suc, Bool, true, false, cond, List, [], ◌∷◌, length, take, Option, Some, None, option_map}
use Rattle.std.specs.List.{filter_map}
use Rattle.corner_table.specs.Sides.{Side, same, Gluing}
use Rattle.corner_table.specs.Fans.{swing_left, swing_right}
use Rattle.corner_table.specs.declared.corner_lists.FaceAcross.{FaceAcross}
use Rattle.corner_table.specs.Ordered.{Ordered, corner_at, at_corner}

-- a corner that is met on the way round a vertex, and whether the way goes on to the left
pub record Turn : Type 0 where
  pub at : Side
  pub leftwards : Bool

abbrev pub turn_at : Side → Bool → Turn
turn_at c l = record { at = c; leftwards = l }

-- the next corner to the right, where there is one
abbrev pub rightwards : Gluing → Side → Option Turn
rightwards g c = option_map (λ d. turn_at d false) (swing_right g c)

-- the next corner to the left, where it isn't the start again; where there is none, the way goes on to the right of the start
abbrev pub leftwards_from : Gluing → Side → Option Side → Option Turn
leftwards_from g start None = rightwards g start
leftwards_from g start (Some d) = cond (same d start) None (Some (turn_at d true))

-- what comes after a corner on the way round
abbrev pub turn_on : Gluing → Side → Turn → Option Turn
turn_on g start t = cond t.leftwards (leftwards_from g start (swing_left g t.at)) (rightwards g t.at)

-- the corners from there on, up to n of them
unfoldable pub round_from : Gluing → Side → ℕ → Option Turn → List Side
round_from g start zero t = []
round_from g start (suc n) None = []
round_from g start (suc n) (Some t) = t.at ∷ round_from g start n (turn_on g start t)

-- the corners round the vertex of a corner: to the left until it comes again, or to the left and then to its right; there are no more than
-- corners of faces
abbrev pub round : Ordered → Side → List Side
round w c = round_from w.gluing c (length w.entries) (Some (turn_at c true))

-- the first four faces, across the sides of these corners, that entry e can be predicted from
unfoldable pub gathered : Ordered → ℕ → List FaceAcross
gathered w e = take 4 (filter_map (at_corner w e) (round w (corner_at w e)))
