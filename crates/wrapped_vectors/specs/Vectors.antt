-- Places and vectors of three whole numbers (Draco 1.5.5, VectorD).
use Rattle.std.specs.Prelude.{ℕ, ℤ, ◌+ℤ◌, ◌-ℤ◌, ◌*ℤ◌}
use Rattle.wrapped_vectors.specs.Wrapped.{signed, unsigned}
use Rattle.wrapped_vectors.specs.declared.vectors.Vector.{Vector}
use Rattle.wrapped_vectors.specs.declared.places.Place.{Place}

abbrev pub vector : ℤ → ℤ → ℤ → Vector
vector x y z = record { x = x; y = y; z = z }

-- the sum, component by component
abbrev pub vector_sum : Vector → Vector → Vector
vector_sum a b = vector (a.x +ℤ b.x) (a.y +ℤ b.y) (a.z +ℤ b.z)

-- the sum of the products of the components
abbrev pub dot : Vector → Vector → ℤ
dot a b = (a.x *ℤ b.x +ℤ a.y *ℤ b.y) +ℤ a.z *ℤ b.z

-- the cross product
abbrev pub cross : Vector → Vector → Vector
cross u v = vector (u.y *ℤ v.z -ℤ u.z *ℤ v.y) (u.z *ℤ v.x -ℤ u.x *ℤ v.z) (u.x *ℤ v.y -ℤ u.y *ℤ v.x)

-- the square of a vector's length, modulo 2^64
abbrev pub squared : Vector → ℕ
squared d = unsigned (dot d d)

-- the vector from place b to place a
abbrev pub apart : Place → Place → Vector
apart a b = vector (a.x -ℤ b.x) (a.y -ℤ b.y) (a.z -ℤ b.z)

-- a vector, each component taken to 64 bits
abbrev pub reduced : Vector → Vector
reduced v = vector (signed v.x) (signed v.y) (signed v.z)
