-- How a surface lies in the lists of the code. These are the code's own words.
use Rattle.std.specs.Prelude.{◌≡◌, ℕ, ◌/◌, ◌<◌, cond, length, map, All}
use Rattle.corner_table.specs.Sides.{Side, next, prev, side_at}
use Rattle.corner_table.specs.Ordered.{Ordered, FitTogether, ordered_from}
use Rattle.predict.specs.declared.surface.Surface.{Surface}
use Rattle.predict.specs.declared.gathering.Turn.{Turn as StoredTurn}
use Rattle.predict.specs.Gathered.{Turn, turn_at}

-- the surface that the lists give
abbrev pub ordered_in : Surface → Ordered
ordered_in s = ordered_from s.across.now s.labels.now s.entry_of_class.now (map side_at s.corners.now)

-- how many faces it has
abbrev pub surface_faces : Surface → ℕ
surface_faces s = length s.labels.now / 3

-- the lists are those of an order over a table
pub record IsOrderedSurface (s : Surface) : Type 0 where
  pub fit : FitTogether (surface_faces s) s.across.now s.labels.now s.entry_of_class.now
  pub corners : All (λ (c : ℕ). c < length s.labels.now) s.corners.now

-- a turn, as the code has it
abbrev pub stored_turn : StoredTurn → Turn
stored_turn t = turn_at (side_at t.at) t.leftwards

-- the side across which it goes on
abbrev pub way_on : Turn → Side
way_on t = cond t.leftwards (next t.at) (prev t.at)

-- a turn at one of so many corners, with the side across which it goes on
pub record IsTurn (corners : ℕ) (t : StoredTurn) : Type 0 where
  pub at : t.at < corners
  pub across : t.across < corners
  pub goes : side_at t.across ≡ way_on (stored_turn t)
