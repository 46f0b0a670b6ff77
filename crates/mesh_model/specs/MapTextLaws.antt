-- What holds of the text of a renumbering and of its reading (this project's choice).
use Rattle.std.specs.Prelude.{ℕ, ◌≡◌, ◌<◌, ◌≤◌, ◌^◌, ◌++◌, Bool, true, false, List, length, take, All, Ok}
use Rattle.mesh_model.specs.declared.geometries.Geometry.{Geometry}
use Rattle.mesh_model.specs.declared.geometries.Geometry.TheVariants.{Mesh, Cloud}
use Rattle.mesh_model.specs.declared.map_reading.MapRead.{MapRead}
use Rattle.mesh_model.specs.MapRead.{map_read, most_rows}
use Rattle.mesh_model.specs.MapText.{map_text_of}
use Rattle.mesh_model.specs.Same.{Rows}

-- whether a geometry is a cloud
abbrev pub is_cloud : Geometry → Bool
is_cloud (Mesh _) = false
is_cloud (Cloud _) = true

-- a row whose number is below 2^32 and whose turn is at most 2
abbrev pub IsMapRow : ℕ × ℕ → Type 0
IsMapRow row = (row.0 < 2 ^ 32) × (row.1 ≤ 2)

-- where the rows are such rows and aren't too many, the text with any bytes behind it is read as these rows, up to its end
abbrev pub MapTextIsReadAgain : Type 0
MapTextIsReadAgain = (g : Geometry) (rows : Rows) (rest : List ℕ) → All IsMapRow rows → length rows ≤ most_rows (is_cloud g) →
    map_read (map_text_of g rows ++ rest)
    ≡ Ok (record { cloud = is_cloud g; rows = record { rows = rows }; end = length (map_text_of g rows) })

-- a text begins with that of a renumbering, whose rows are such rows and aren't too many: up to its end it is the text of
-- these rows, of any geometry of that kind
pub record IsMapTextOf (text : List ℕ) (m : MapRead) : Type 0 where
  pub few : length m.rows.rows ≤ most_rows m.cloud
  pub each : All IsMapRow m.rows.rows
  pub within : m.end ≤ length text
  pub text_is : (g : Geometry) → is_cloud g ≡ m.cloud → take m.end text ≡ map_text_of g m.rows.rows

-- what is read is such a text
abbrev pub MapReadIsMapText : Type 0
MapReadIsMapText = (text : List ℕ) (m : MapRead) → map_read text ≡ Ok m → IsMapTextOf text m
