-- What holds of every geometry that the code has.
use Rattle.mesh_model.specs.declared.geometries.Geometry.{Geometry}
use Rattle.mesh_model.specs.declared.geometries.Geometry.TheVariants.{Mesh, Cloud}
use Rattle.mesh_model.specs.Parts.{IsMesh, IsCloud}

-- the rows and faces of a geometry fit its heads, within the limits
abbrev pub IsGeometry : Geometry → Type 0
IsGeometry (Mesh m) = IsMesh m
IsGeometry (Cloud c) = IsCloud c
