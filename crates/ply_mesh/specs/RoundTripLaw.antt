-- The text of a geometry is read as that geometry.
use Rattle.std.specs.Prelude.{ℕ, ◌≡◌, IsTrue, List, Ok}
use Rattle.std.specs.List.{AllByRecursion}
use Rattle.attr_heads.specs.ProfileHeads.{has_heads}
use Rattle.mesh_model.specs.declared.geometries.Geometry.{Geometry}
use Rattle.mesh_model.specs.Contents.{heads_in}
use Rattle.mesh_model.specs.IsGeometry.{IsGeometry}
use Rattle.ply_mesh.specs.Fields.{HasFields}
use Rattle.ply_mesh.specs.Read.{ply_read_in}
use Rattle.ply_mesh.specs.Text.{ply_text}

-- a text is read as this geometry in each profile that has its heads
abbrev pub IsReadAgain : List ℕ → Geometry → Type 0
IsReadAgain text g = (profile : ℕ) → IsTrue (has_heads profile (heads_in g)) → ply_read_in profile text ≡ Ok g

-- every geometry within the limits, whose heads have fields of their widths, is what its text means in each profile that has its
-- heads
abbrev pub TextIsReadAgain : Type 0
TextIsReadAgain = (g : Geometry) → IsGeometry g → AllByRecursion HasFields (heads_in g) → IsReadAgain (ply_text g) g
