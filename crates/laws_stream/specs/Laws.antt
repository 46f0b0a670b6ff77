-- What is written of a geometry is bytes, whatever the geometry and the choice; and where the geometry isn't refused, they are a stream
-- that means it in the first profile that has all that is written, and is coded as was chosen (this project's choice of words).
use Rattle.std.specs.Prelude.{◌≡◌, ℕ, ◌<◌, None, All}
use Rattle.mesh_model.specs.declared.geometries.Geometry.{Geometry}
use Rattle.mesh_model.specs.Contents.{heads_in}
use Rattle.mesh_model.specs.IsGeometry.{IsGeometry}
use Rattle.laws_attr.specs.Laws.{HeadFits}
use Rattle.drc_container.specs.declared.choice.choices.Choice.{Choice}
use Rattle.drc_container.specs.choice.Refused.{refused}
use Rattle.drc_container.specs.writing.Chosen.{written}
use Rattle.drc_container.specs.writing.Encoded.{Means}
use Rattle.drc_container.specs.writing.Layout.{IsLaidOut}

-- a number is one of a byte
abbrev pub IsByte : ℕ → Type 0
IsByte n = n < 256

-- a geometry that isn't refused is what its stream means, by the rows that stand beside the stream; the numbers of its heads that aren't
-- tested have 32 bits
abbrev pub WrittenMeans : Type 0
WrittenMeans = (g : Geometry) (choice : Choice) → IsGeometry g → All HeadFits (heads_in g) → refused g choice ≡ None
    → Means g choice (written g choice).0 (written g choice).1

-- its stream is coded as was chosen
abbrev pub WrittenIsLaidOut : Type 0
WrittenIsLaidOut = (g : Geometry) (choice : Choice) → IsGeometry g → All HeadFits (heads_in g) → refused g choice ≡ None
    → IsLaidOut g choice (written g choice).0

-- each number that is written is one of a byte, as the flag of each head is, whether the geometry is refused or not
abbrev pub WrittenIsBytes : Type 0
WrittenIsBytes = (g : Geometry) (choice : Choice) → IsGeometry g → All (λ h. IsByte h.normalized) (heads_in g)
    → All IsByte (written g choice).0
