-- Sides in classes: those that run the same way between the same positions (this project's choice).
use Rattle.std.specs.Prelude.{◌≡◌, ℕ, ◌+◌, ◌-◌, ◌*◌, ◌/◌, ◌%◌, ◌<◌, cond, eqb, min, max, List, length, get_or}
use Rattle.corner_table.specs.Sides.{next, prev, side_at}
use Rattle.pairing.specs.Positions.{position_in}

-- the lower and the higher position of each side
pub record AreBounds (numbers lows highs : List ℕ) : Type 0 where
  pub each_low : length lows ≡ length numbers
  pub each_high : length highs ≡ length numbers
  pub low : (x : ℕ) → x < length numbers → get_or lows x 0
      ≡ min (position_in numbers (next (side_at x))) (position_in numbers (prev (side_at x)))
  pub high : (x : ℕ) → x < length numbers → get_or highs x 0
      ≡ max (position_in numbers (next (side_at x))) (position_in numbers (prev (side_at x)))

-- the class of a side of edge e that starts at a position, where the edge's lower one is known
abbrev pub class_at : ℕ → ℕ → ℕ → ℕ
class_at edge start low = cond (eqb start low) (2 * edge) (2 * edge + 1)

-- the halves of the first `side` classes are edges: one for the sides that have one first side
pub record AreEdges (firsts classes : List ℕ) (edges side : ℕ) : Type 0 where
  pub below : (x : ℕ) → x < side → get_or classes x 0 / 2 < edges
  pub alike : (x y : ℕ) → x < side → y < side → get_or firsts x 0 ≡ get_or firsts y 0 → get_or classes x 0 / 2 ≡ get_or classes y 0 / 2
  pub apart : (x y : ℕ) → x < side → y < side → get_or classes x 0 / 2 ≡ get_or classes y 0 / 2 → get_or firsts x 0 ≡ get_or firsts y 0

-- the class of the sides that run the other way: classes 2e and 2e + 1 are those of one edge
abbrev pub reversed : ℕ → ℕ
reversed c = c + 1 - 2 * (c % 2)

-- sides run between the same positions, one way and the other, exactly where their classes are each other's reverse
pub record AreClasses (numbers classes : List ℕ) (count : ℕ) : Type 0 where
  pub each : length classes ≡ length numbers
  pub below : (x : ℕ) → x < length numbers → get_or classes x 0 < count
  pub reverse_below : (x : ℕ) → x < length numbers → reversed (get_or classes x 0) < count
  pub alike : (x y : ℕ) → x < length numbers → y < length numbers →
      position_in numbers (next (side_at x)) ≡ position_in numbers (prev (side_at y)) →
      position_in numbers (prev (side_at x)) ≡ position_in numbers (next (side_at y)) → get_or classes x 0 ≡ reversed (get_or classes y 0)
  pub apart : (x y : ℕ) → x < length numbers → y < length numbers → get_or classes x 0 ≡ reversed (get_or classes y 0) →
      (position_in numbers (next (side_at x)) ≡ position_in numbers (prev (side_at y)))
      × (position_in numbers (prev (side_at x)) ≡ position_in numbers (next (side_at y)))
