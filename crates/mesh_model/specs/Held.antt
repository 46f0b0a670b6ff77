-- Geometries as heads, a flat list of points and, for a mesh, faces (this project's choice).
use Rattle.std.specs.Prelude.{ℕ, ℤ, List, Option, None, Some, Result}
use Rattle.drc_base.specs.declared.faults.Fault.{Fault}
use Rattle.attr_heads.specs.declared.heads.Head.{Head}
use Rattle.mesh_model.specs.declared.geometries.Geometry.{Geometry}
use Rattle.mesh_model.specs.declared.geometries.Geometry.TheVariants.{Mesh, Cloud}
use Rattle.attr_heads.specs.FirstFault.{value_unless}
use Rattle.attr_heads.specs.Head.{width_of}
use Rattle.mesh_model.specs.Parts.{rows_of, mesh_fault, cloud_fault}

-- the mesh of heads, rows of `width` integers and faces, or the cloud, where there are no faces
abbrev pub held : List Head → ℕ → List ℤ → Option (List (List ℕ)) → Geometry
held heads width cells None = Cloud (record { heads = heads; points = rows_of width cells })
held heads width cells (Some faces) = Mesh (record { heads = heads; points = rows_of width cells; faces = faces })

-- the first fault of heads, a flat list of points and faces that are to be a mesh, or a cloud, where there are no faces
abbrev pub held_fault : List Head → List ℤ → Option (List (List ℕ)) → Option Fault
held_fault heads cells None = cloud_fault heads cells
held_fault heads cells (Some faces) = mesh_fault heads cells faces

-- the mesh or cloud of them, or its first fault
abbrev pub geometry_of : List Head → List ℤ → Option (List (List ℕ)) → Result Geometry Fault
geometry_of heads cells faces = value_unless (held_fault heads cells faces) (held heads (width_of heads) cells faces)

-- the faces of a mesh; a cloud has none
abbrev pub faces_held : Geometry → Option (List (List ℕ))
faces_held (Mesh m) = Some m.faces
faces_held (Cloud c) = None
