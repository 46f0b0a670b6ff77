-- Numbers for positions: equal numbers for equal positions, and only for them (this project's choice).
use Rattle.std.specs.Prelude.{◌≡◌, ◌≢◌, ℕ, ◌*◌, ◌<◌, Bool, eqb, ℤ, List, [], length, take, get_or}
use Rattle.mesh_model.specs.Parts.{MeshParts}
use Rattle.corner_table.specs.Sides.{Side, next, number}
use Rattle.pairing.specs.Pairing.{corner_position}

-- the numbers of points by their first `width` integers
pub record ArePointNumbers (points : List (List ℤ)) (width : ℕ) (numbers : List ℕ) : Type 0 where
  pub each : length numbers ≡ length points
  pub below : (p : ℕ) → p < length points → get_or numbers p 0 < length points
  pub alike : (p q : ℕ) → p < length points → q < length points → take width (get_or points p []) ≡ take width (get_or points q []) →
      get_or numbers p 0 ≡ get_or numbers q 0
  pub apart : (p q : ℕ) → p < length points → q < length points → get_or numbers p 0 ≡ get_or numbers q 0 →
      take width (get_or points p []) ≡ take width (get_or points q [])

-- the number of a corner's position
abbrev pub position_in : List ℕ → Side → ℕ
position_in numbers c = get_or numbers (number c) 0

-- whether two corners have one position, by their numbers
abbrev pub same_in : List ℕ → Side → Side → Bool
same_in numbers c d = eqb (position_in numbers c) (position_in numbers d)

-- the numbers of the positions of all corners
pub record AreCornerNumbers (m : MeshParts) (numbers : List ℕ) : Type 0 where
  pub each : length numbers ≡ 3 * length m.faces
  pub below : (c : Side) → c.face < length m.faces → position_in numbers c < length m.points
  pub alike : (c d : Side) → c.face < length m.faces → d.face < length m.faces → corner_position m c ≡ corner_position m d →
      position_in numbers c ≡ position_in numbers d
  pub apart : (c d : Side) → c.face < length m.faces → d.face < length m.faces → position_in numbers c ≡ position_in numbers d →
      corner_position m c ≡ corner_position m d

-- each face has three positions
pub record AreTriangles (faces : ℕ) (numbers : List ℕ) : Type 0 where
  pub each : length numbers ≡ 3 * faces
  pub apart : (c : Side) → c.face < faces → position_in numbers c ≢ position_in numbers (next c)
