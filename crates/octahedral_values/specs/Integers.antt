-- Lists of points as lists of integers, two for each.
use Rattle.std.specs.Prelude.{ℤ, List, [], ◌∷◌}
use Rattle.octahedron.specs.declared.points.Point.{Point}

-- the integers of these points
unfoldable pub integers_of : List Point → List ℤ
integers_of [] = []
integers_of (p ∷ points) = p.s ∷ p.t ∷ integers_of points
