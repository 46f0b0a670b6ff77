-- Being the same up to a renumbering is an equivalence.
use Rattle.std.specs.Prelude.{ℕ, length}
use Rattle.mesh_model.specs.declared.geometries.Geometry.{Geometry}
use Rattle.mesh_model.specs.declared.geometries.Geometry.TheVariants.{Mesh, Cloud}
use Rattle.mesh_model.specs.Same.{Rows, Same}
use Rattle.mesh_model.specs.Renumbering.{plain, composed, inverted}

-- how many faces a mesh has, or points a cloud
abbrev pub count_of : Geometry → ℕ
count_of (Mesh m) = length m.faces
count_of (Cloud c) = length c.points

-- every geometry is itself by the plain rows
abbrev pub SameIsReflexive : Type 0
SameIsReflexive = (g : Geometry) → Same g g (plain (count_of g))

-- where h is g by c, g is h by the rows back
abbrev pub SameIsSymmetric : Type 0
SameIsSymmetric = (g h : Geometry) (c : Rows) → Same g h c → Same h g (inverted c)

-- where h is g by a, and i is h by b, then i is g by a and then b
abbrev pub SameIsTransitive : Type 0
SameIsTransitive = (g h i : Geometry) (a b : Rows) → Same g h a → Same h i b → Same g i (composed a b)
