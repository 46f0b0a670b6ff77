-- The direction of a sum of normals, by whole numbers whose sizes add up to the centre c of a square of octahedral values (Draco 1.5.5,
-- MeshPredictionSchemeGeometricNormalPredictorArea, VectorD::AbsSum and OctahedronToolBox::CanonicalizeIntegerVector).
use Rattle.std.specs.Prelude.{ℕ, ◌+◌, ◌-◌, ◌/◌, ◌^◌, min, ℤ, pos, ◌-ℤ◌, ◌*ℤ◌, neg_ℤ, int_div, int_lt, unsigned_abs, nat_lt, nat_eq, if◌then◌else◌}
use Rattle.wrapped_vectors.specs.Vectors.{vector}
use Rattle.wrapped_vectors.specs.declared.vectors.Vector.{Vector}
use Rattle.octahedron.specs.declared.points.Direction.{Direction}

abbrev pub direction_at : ℤ → ℤ → ℤ → Direction
direction_at x y z = record { x = x; y = y; z = z }

-- the sum of the sizes of the components
abbrev pub abs_sum : Vector → ℕ
abs_sum v = unsigned_abs v.x + (unsigned_abs v.y + unsigned_abs v.z)

-- the same, at most 2^63 - 1
abbrev pub capped_sum : Vector → ℕ
capped_sum v = min (abs_sum v) (2 ^ 63 - 1)

-- each component divided, toward zero
abbrev pub divided : Vector → ℕ → Vector
divided v k = vector (int_div v.x (pos k)) (int_div v.y (pos k)) (int_div v.z (pos k))

-- a vector of nearly the same direction, with components below 2^30: divided where the sizes add up to more than 2^29
unfoldable pub shrunk : Vector → Vector
shrunk v = if nat_lt (2 ^ 29) (capped_sum v) then divided v (capped_sum v / 2 ^ 29) else v

-- what the first two components leave of c for the third, with its sign
abbrev pub rest : ℤ → ℤ → ℤ → ℤ → ℤ
rest c x y sign =
    if int_lt sign (pos 0) then pos (unsigned_abs x + unsigned_abs y) -ℤ c else c -ℤ pos (unsigned_abs x + unsigned_abs y)

-- a vector whose sizes add up to s as a direction: its first two components as parts of c, toward zero, and the rest of c
abbrev pub scaled : ℤ → Vector → ℕ → Direction
scaled c v s = direction_at (int_div (v.x *ℤ c) (pos s)) (int_div (v.y *ℤ c) (pos s)) (rest c (int_div (v.x *ℤ c) (pos s)) (int_div (v.y *ℤ c) (pos s)) v.z)

-- the direction of a sum of normals; that of zeros is along x
unfoldable pub direction : ℤ → Vector → Direction
direction c n = if nat_eq (abs_sum (shrunk n)) 0 then direction_at c (pos 0) (pos 0) else scaled c (shrunk n) (abs_sum (shrunk n))

-- the opposite direction
abbrev pub opposite : Direction → Direction
opposite v = direction_at (neg_ℤ v.x) (neg_ℤ v.y) (neg_ℤ v.z)
