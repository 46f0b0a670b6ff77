-- The faults of arrays that come before out of memory (this project's choice).
use Rattle.std.specs.Prelude.{ℕ, ◌==◌, ◌/◌, ℤ, List, [], ◌∷◌, length, map, Option, None, if◌then◌else◌}
use Rattle.drc_base.specs.declared.faults.Fault.{Fault}
use Rattle.attr_heads.specs.FirstFault.{first_fault}
use Rattle.attr_heads.specs.Head.{heads_fault}
use Rattle.mesh_model.specs.Parts.{count_fault, faces_fault}
use Rattle.drc_c.specs.declared.heads.DrcHead.{DrcHead}
use Rattle.drc_c.specs.Heads.{head_meant}
use Rattle.drc_c.specs.Inputs.{width_told}

-- the first fault of the heads, of the numbers of points and values, and of the number of faces where there is to be a mesh
unfoldable pub arrays_early_fault : ℕ → List DrcHead → List (List ℕ) → List ℤ → Option Fault
arrays_early_fault mesh heads corners values = first_fault (
    heads_fault (map head_meant heads)
    ∷ count_fault (length values / width_told heads) (width_told heads)
    ∷ (if mesh == 1 then faces_fault corners else None)
    ∷ [])
