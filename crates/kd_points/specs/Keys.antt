-- The key of a point: the bits of its offsets along the axes (this project's choice). An offset is how far the point's integer in
-- a component is above the least one.
use Rattle.std.specs.Prelude.{ℕ, ◌+◌, ◌/◌, ◌%◌, ◌^◌, ◌==◌, ◌&&◌, Bool, List, [], ◌∷◌, map, if◌then◌else◌}
use Rattle.kd_tree.specs.Keys.{Key}
use Rattle.kd_points.specs.declared.axes.Axis.{Axis}

-- the bit of a number, counted from the lowest
abbrev pub number_has_bit : ℕ → ℕ → Bool
number_has_bit bit n = n / 2 ^ bit % 2 == 1

-- the key of a point with this offset in each component
abbrev pub key_of : List Axis → (ℕ → ℕ) → Key
key_of axes offset = map (λ axis. number_has_bit axis.bit (offset axis.component)) axes

-- the offset in a component that a key gives: the sum of the powers of two of its bits there
abbrev pub offset_in : List Axis → Key → ℕ → ℕ
offset_in [] key component = 0
offset_in (axis ∷ axes) [] component = 0
offset_in (axis ∷ axes) (bit ∷ key) component =
    (if bit && axis.component == component then 2 ^ axis.bit else 0) + offset_in axes key component
