-- What holds of the way round a vertex, by which parallelograms are gathered (swings on a corner table, after Rossignac 1999).
use Rattle.std.specs.Prelude.{◌≡◌, ℕ, ◌<◌, ◌≤◌, ◌↔◌, true, List, length, get_or, Some}
use Rattle.std.specs.List.{Contains}
use Rattle.corner_table.specs.Sides.{Side, Gluing, IsGluing}
use Rattle.corner_table.specs.Fans.{InFan}
use Rattle.corner_table.specs.Ordered.{Ordered, IsOver}
use Rattle.predict.specs.Gathered.{turn_at, round_from, round}

-- a list of the corners of the fan of c: each of them stands in it, no other does, and none stands there twice
pub record ListsFan (g : Gluing) (c : Side) (corners : List Side) : Type 0 where
  pub each : (d : Side) → InFan g c d ↔ Contains corners d
  pub once : (i j : ℕ) → i < length corners → j < length corners → get_or corners i c ≡ get_or corners j c → i ≡ j

-- the way round is such a list
abbrev pub RoundIsFan : Type 0
RoundIsFan = (faces : ℕ) (w : Ordered) → IsGluing faces w.gluing → IsOver faces w → (c : Side) → c.face < faces →
    ListsFan w.gluing c (round w c)

-- with more fuel the way round is the same
abbrev pub RoundHasFuel : Type 0
RoundHasFuel = (faces : ℕ) (w : Ordered) → IsGluing faces w.gluing → IsOver faces w → (c : Side) → c.face < faces →
    (n : ℕ) → length w.entries ≤ n → round_from w.gluing c n (Some (turn_at c true)) ≡ round w c
