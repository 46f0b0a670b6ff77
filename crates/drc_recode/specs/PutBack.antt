-- A geometry put back into the order before the rows of a map (this project's choice).
use Rattle.std.specs.Prelude.{◌==◌, Bool, not, [], ◌∷◌, length, Option, Result, if◌then◌else◌}
use Rattle.drc_base.specs.declared.faults.Fault.{Fault}
use Rattle.drc_base.specs.declared.kinds.Kind.TheVariants.{MapKind, MapCount}
use Rattle.mesh_model.specs.declared.geometries.Geometry.{Geometry}
use Rattle.mesh_model.specs.Contents.{is_mesh}
use Rattle.attr_heads.specs.FirstFault.{unless, first_fault, value_unless}
use Rattle.mesh_model.specs.Same.{Rows}
use Rattle.mesh_model.specs.SameLaws.{count_of}
use Rattle.drc_recode.specs.Inverse.{bad_row}
use Rattle.drc_recode.specs.FirstOrder.{first_order, greatest_turn}

-- whether a map, of a cloud or of a mesh, is of a geometry of its kind
abbrev pub is_of_kind : Bool → Geometry → Bool
is_of_kind cloud g = if cloud then not (is_mesh g) else is_mesh g

-- the fault of a map of another kind of geometry, or with another number of rows
abbrev pub fit_fault : Bool → Rows → Geometry → Option Fault
fit_fault cloud rows g = first_fault (
    unless (is_of_kind cloud g) MapKind 0
    ∷ unless (length rows == count_of g) MapCount (length rows)
    ∷ [])

-- why a geometry can't be put back by a map: its kind, the number of its rows, or the first row that can't be turned back
abbrev pub map_fault : Bool → Rows → Geometry → Option Fault
map_fault cloud rows g = first_fault (fit_fault cloud rows g ∷ bad_row (greatest_turn g) rows ∷ [])

-- the geometry in the order before the rows of a map, or why it can't be put back
abbrev pub put_back : Bool → Rows → Geometry → Result Geometry Fault
put_back cloud rows g = value_unless (map_fault cloud rows g) (first_order g rows)
