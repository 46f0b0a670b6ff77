-- Directions on the square (Draco 1.5.5, canonicalized octahedral transform).
use Rattle.std.specs.Prelude.{◌≡◌, ◌+◌, ℤ, pos, ◌-ℤ◌, unsigned_abs, int_lt, int_le, if◌then◌else◌}
use Rattle.octahedron.specs.declared.points.Point.{Point}
use Rattle.octahedron.specs.declared.points.Direction.{Direction}
use Rattle.octahedron.specs.Square.{point, canonical, value_at}

-- a direction whose components' sizes add up to c
abbrev pub IsOnOctahedron : ℤ → Direction → Type 0
IsOnOctahedron c v = pos (unsigned_abs v.x + (unsigned_abs v.y + unsigned_abs v.z)) ≡ c

-- the point of a direction, in one of its spellings: the half with x from 0 on is the diamond, the other half is folded outward
unfoldable pub unfolded : ℤ → Direction → Point
unfolded c v =
    if int_le (pos 0) v.x then point v.y v.z
    else point
    (if int_lt v.y (pos 0) then pos (unsigned_abs v.z) -ℤ c else c -ℤ pos (unsigned_abs v.z))
    (if int_lt v.z (pos 0) then pos (unsigned_abs v.y) -ℤ c else c -ℤ pos (unsigned_abs v.y))

-- the point and the value of a direction, in canonical spelling
abbrev pub octahedral : ℤ → Direction → Point
octahedral c v = canonical c (unfolded c v)

abbrev pub octahedral_value : ℤ → Direction → Point
octahedral_value c v = value_at c (octahedral c v)
