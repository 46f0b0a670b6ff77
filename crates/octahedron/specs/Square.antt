-- The square of octahedral values, its two spellings of a point, and the exchange of the diamond with the triangles round it (Draco 1.5.5,
-- canonicalized octahedral transform). Points are told about the centre, values from 0 on.
use Rattle.std.specs.Prelude.{◌≡◌, ◌+◌, ℤ, pos, ◌+ℤ◌, ◌-ℤ◌, ◌≤ℤ◌, neg_ℤ, unsigned_abs, int_lt, int_le, Bool, ◌&&◌, ◌||◌, if◌then◌else◌}
use Rattle.octahedron.specs.declared.points.Point.{Point}

abbrev pub point : ℤ → ℤ → Point
point s t = record { s = s; t = t }

-- a point of the square: both coordinates are from -c to c
pub record IsIn (c : ℤ) (p : Point) : Type 0 where
  pub left : neg_ℤ c ≤ℤ p.s
  pub right : p.s ≤ℤ c
  pub below : neg_ℤ c ≤ℤ p.t
  pub above : p.t ≤ℤ c

-- a value or a correction: both coordinates are from 0 to 2c
pub record IsValue (c : ℤ) (d : Point) : Type 0 where
  pub s_least : pos 0 ≤ℤ d.s
  pub s_greatest : d.s ≤ℤ (c +ℤ c)
  pub t_least : pos 0 ≤ℤ d.t
  pub t_greatest : d.t ≤ℤ (c +ℤ c)

-- the point of a value, and the value of a point
abbrev pub centred : ℤ → Point → Point
centred c v = point (v.s -ℤ c) (v.t -ℤ c)

abbrev pub value_at : ℤ → Point → Point
value_at c p = point (p.s +ℤ c) (p.t +ℤ c)

-- a point outside the diamond, that is in one of the four triangles at the corners of the square
abbrev pub is_outside : ℤ → Point → Bool
is_outside c p = int_lt c (pos (unsigned_abs p.s + unsigned_abs p.t))

-- the exchange of the diamond with the four triangles
unfoldable pub flip : ℤ → Point → Point
flip c p =
    if int_le (pos 0) p.s && int_le (pos 0) p.t then point (c -ℤ p.t) (c -ℤ p.s)
    else if int_le p.s (pos 0) && int_le p.t (pos 0) then point (neg_ℤ c -ℤ p.t) (neg_ℤ c -ℤ p.s)
    else if int_lt (pos 0) p.s then point (p.t +ℤ c) (p.s -ℤ c)
    else point (p.t -ℤ c) (p.s +ℤ c)

-- one spelling for each point of the border, where two points stand for one direction, and all corners for one: the corners are spelled as
-- the last of them; of the right and the upper side the greater half is kept, of the left and the lower one the lesser
unfoldable pub canonical : ℤ → Point → Point
canonical c p =
    if (int_le p.s (neg_ℤ c) || int_le c p.s) && (int_le p.t (neg_ℤ c) || int_le c p.t) then point c c
    else if (int_le p.s (neg_ℤ c) && int_lt (pos 0) p.t) || (int_le c p.s && int_lt p.t (pos 0)) then point p.s (neg_ℤ p.t)
    else if (int_le c p.t && int_lt p.s (pos 0)) || (int_le p.t (neg_ℤ c) && int_lt (pos 0) p.s) then point (neg_ℤ p.s) p.t
    else p

-- a point, and a value, in canonical spelling
abbrev pub IsCanonical : ℤ → Point → Type 0
IsCanonical c p = canonical c p ≡ p

abbrev pub IsCanonicalValue : ℤ → Point → Type 0
IsCanonicalValue c v = IsCanonical c (centred c v)
