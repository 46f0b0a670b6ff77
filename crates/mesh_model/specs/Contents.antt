-- What a geometry has: the same words for a mesh and for a cloud.
use Rattle.std.specs.Prelude.{ℕ, ℤ, Bool, true, false, List, []}
use Rattle.attr_heads.specs.declared.heads.Head.{Head}
use Rattle.mesh_model.specs.declared.geometries.Geometry.{Geometry}
use Rattle.mesh_model.specs.declared.geometries.Geometry.TheVariants.{Mesh, Cloud}

-- whether it is a mesh
abbrev pub is_mesh : Geometry → Bool
is_mesh (Mesh m) = true
is_mesh (Cloud c) = false

-- the heads of its attributes
abbrev pub heads_in : Geometry → List Head
heads_in (Mesh m) = m.heads
heads_in (Cloud c) = c.heads

-- its points, each a row of integers
abbrev pub points_in : Geometry → List (List ℤ)
points_in (Mesh m) = m.points
points_in (Cloud c) = c.points

-- its faces; a cloud has none
abbrev pub faces_in : Geometry → List (List ℕ)
faces_in (Mesh m) = m.faces
faces_in (Cloud c) = []
