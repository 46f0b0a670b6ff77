-- Geometries that arrays of C mean (this project's choice).
use Rattle.std.specs.Prelude.{ℕ, ◌==◌, ◌&&◌, ◌||◌, ◌%◌, ℤ, Bool, true, List, length, map, sum_by, nat_lt, None, Some, Result, if◌then◌else◌}
use Rattle.std.specs.List.{list_all}
use Rattle.drc_base.specs.declared.faults.Fault.{Fault}
use Rattle.drc_base.specs.declared.limits.TheConstants.{MAX_ATTRIBUTES}
use Rattle.attr_heads.specs.declared.heads.Head.{Head}
use Rattle.mesh_model.specs.declared.geometries.Geometry.{Geometry}
use Rattle.mesh_model.specs.Held.{geometry_of}
use Rattle.drc_c.specs.declared.heads.DrcHead.{DrcHead}
use Rattle.drc_c.specs.Heads.{head_meant}

-- how many integers a point has: the sum of the components
abbrev pub width_told : List DrcHead → ℕ
width_told heads = sum_by (λ h. h.comps) heads

-- whether integers are whole rows; where there are too many attributes, or none has a component, that is what is wrong
abbrev pub are_whole : List DrcHead → List ℤ → Bool
are_whole heads values =
    if nat_lt MAX_ATTRIBUTES (length heads) then true
    else (width_told heads == 0 || (length values % width_told heads == 0))

-- whether what is spare in heads is 0
abbrev pub are_clear : List DrcHead → Bool
are_clear heads = list_all (λ h. h.spare == 0) heads

-- whether arrays fit each other: 1 a mesh, or 0 a cloud, which has no faces; heads with nothing in what is spare; and whole rows
abbrev pub do_fit : ℕ → List DrcHead → List (List ℕ) → List ℤ → Bool
do_fit mesh heads corners values =
    ((mesh == 1 || (mesh == 0 && (length corners == 0))) && are_clear heads) && are_whole heads values

-- the geometry of heads, faces and integers, or its first fault: 1 a mesh, else a cloud
unfoldable pub geometry_made : ℕ → List Head → List (List ℕ) → List ℤ → Result Geometry Fault
geometry_made mesh heads faces cells = geometry_of heads cells (if mesh == 1 then Some faces else None)

-- the geometry that arrays mean, or its first fault
abbrev pub geometry_meant : ℕ → List DrcHead → List (List ℕ) → List ℤ → Result Geometry Fault
geometry_meant mesh heads corners values = geometry_made mesh (map head_meant heads) corners values
