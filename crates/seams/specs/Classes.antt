-- Classes: the corners of a vertex among which an attribute has one value (Draco Bitstream Specification 2.2, section Edgebreaker
-- Connectivity, attribute seams).
use Rattle.std.specs.Prelude.{◌≡◌, ◌⊎◌, Bool, true, false, Some, None}
use Rattle.corner_table.specs.Sides.{Side, next, prev, Gluing}
use Rattle.corner_table.specs.Fans.{swing_left, swing_right}

-- two corners are in one class: a chain of swings leads from one to the other, each over a glued side that is no seam
pub data InClass (flags : Side → Bool) (g : Gluing) : Side → Side → Type 0 where
  itself : {c : Side} → InClass flags g c c
  over_next : {c d e : Side} → flags (next c) ≡ false → swing_left g c ≡ Some d → InClass flags g d e → InClass flags g c e
  over_prev : {c d e : Side} → flags (prev c) ≡ false → swing_right g c ≡ Some d → InClass flags g d e → InClass flags g c e

-- a side where a class ends: a free side, or a seam
abbrev pub IsEnd : (Side → Bool) → Gluing → Side → Type 0
IsEnd flags g x = (g x ≡ None) ⊎ (flags x ≡ true)

-- a boundary or a seam meets the class of a corner
pub record MeetsEnd (flags : Side → Bool) (g : Gluing) (c : Side) : Type 0 where
  pub corner : Side
  pub in_class : InClass flags g c corner
  pub end : IsEnd flags g (next corner) ⊎ IsEnd flags g (prev corner)
