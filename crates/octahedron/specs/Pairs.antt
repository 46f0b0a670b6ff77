-- Lists of integers as lists of points, two integers for each.
use Rattle.std.specs.Prelude.{ℕ, ◌+◌, ◌-◌, ◌*◌, ℤ, pos, ◌+ℤ◌, ◌≤ℤ◌, List, [], ◌∷◌, All, slice_index_or, nat_eq, if◌then◌else◌}
use Rattle.octahedron.specs.declared.points.Point.{Point}
use Rattle.octahedron.specs.Square.{point, IsValue, IsCanonicalValue}

-- the points of these integers
unfoldable pub pairs_of : List ℤ → List Point
pairs_of [] = []
pairs_of (s ∷ []) = []
pairs_of (s ∷ t ∷ integers) = point s t ∷ pairs_of integers

-- the point of entry e
abbrev pub pair_in : List ℤ → ℕ → Point
pair_in integers e = point (slice_index_or integers (2 * e) (pos 0)) (slice_index_or integers (2 * e + 1) (pos 0))

-- the point before entry e, and the first corner before the first one
abbrev pub pair_before : List ℤ → ℕ → Point
pair_before integers e = if nat_eq e 0 then point (pos 0) (pos 0) else pair_in integers (e - 1)

-- an integer from 0 to 2c
abbrev pub IsCoordinate : ℤ → ℤ → Type 0
IsCoordinate c x = (pos 0 ≤ℤ x) × (x ≤ℤ (c +ℤ c))

-- all integers are from 0 to 2c
abbrev pub AreCoordinates : ℤ → List ℤ → Type 0
AreCoordinates c integers = All (IsCoordinate c) integers

-- all points are values or corrections
abbrev pub AreValues : ℤ → List ℤ → Type 0
AreValues c integers = All (IsValue c) (pairs_of integers)

-- all points are values in canonical spelling
abbrev pub AreCanonical : ℤ → List ℤ → Type 0
AreCanonical c integers = All (IsCanonicalValue c) (pairs_of integers)
