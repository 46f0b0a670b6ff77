-- Faces with two corners at one position (this project's choice).
use Rattle.std.specs.Prelude.{ℕ, ◌||◌, Bool, length, Option}
use Rattle.drc_base.specs.declared.faults.Fault.{Fault}
use Rattle.drc_base.specs.declared.kinds.Kind.TheVariants.{Degenerate}
use Rattle.attr_heads.specs.FirstFault.{at_place}
use Rattle.mesh_model.specs.Parts.{MeshParts}
use Rattle.corner_table.specs.Sides.{side, first, second, third}
use Rattle.pairing.specs.Pairing.{same_position, least}

-- whether two corners of face f have one position
abbrev pub is_degenerate_face : MeshParts → ℕ → Bool
is_degenerate_face m f =
    same_position m (side f first) (side f second)
    || same_position m (side f second) (side f third)
    || same_position m (side f third) (side f first)

-- the first such face
abbrev pub degenerate_fault : MeshParts → Option Fault
degenerate_fault m = at_place Degenerate (least (is_degenerate_face m) (length m.faces))
