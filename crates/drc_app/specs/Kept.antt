-- What a command keeps: what was written means the geometry that was read (this project's choice).
use Rattle.std.specs.Prelude.{◌≡◌, ◌↔◌, ◌++◌, ℕ, Bool, List, drop, Ok, IsOkAnd}
use Rattle.drc_base.specs.Profile.{Profile, profile_numbered}
use Rattle.drc_base.specs.declared.profiles.TheConstants.{PROFILE_TWO}
use Rattle.mesh_model.specs.declared.geometries.Geometry.{Geometry}
use Rattle.mesh_model.specs.Same.{Rows, Same}
use Rattle.mesh_model.specs.MapRead.{map_read}
use Rattle.mesh_model.specs.MapText.{map_text_of}
use Rattle.ply_mesh.specs.Read.{ply_read_in, ply_read}
use Rattle.drc_container.specs.declared.choice.choices.Choice.{Choice}
use Rattle.drc_container.specs.writing.Encoded.{Means}
use Rattle.drc_container.specs.writing.Layout.{IsLaidOut}
use Rattle.drc_container.specs.reading.Meaning.{Meaning}
use Rattle.drc_container.specs.reading.Stream.{stream_in, meaning_in}
use Rattle.drc_recode.specs.Restored.{MeansInOrder}
use Rattle.kd_points.specs.Meaning.{kd_meaning}
use Rattle.kd_points.specs.Rows.{KdMeans}
use Rattle.drc_verify.specs.Checked.{IsSame}
use Rattle.drc_app.specs.Given.{Given, Written, Differs}
use Rattle.drc_app.specs.Verified.{parts_of}
use Rattle.drc_app.specs.declared.commands.Command.{Command}
use Rattle.drc_app.specs.declared.commands.Command.TheVariants as command

-- the stream means a geometry by some rows and is coded as chosen, and the note is the map of exactly these rows
pub record IsCoded (choice : Choice) (bytes note : List ℕ) (g : Geometry) : Type 0 where
  pub rows : Rows
  pub means : Means g choice bytes rows
  pub coded : IsLaidOut g choice bytes
  pub map : note ≡ map_text_of g rows

-- the stream means each geometry in its own order, of which the input's stream, read in a profile, is the one by the rows of the input's
-- map
abbrev pub IsInOrder : Profile → List ℕ → List ℕ → Type 0
IsInOrder p input stream = IsOkAnd (map_read input) (λ map. (g n : Geometry)
    → meaning_in p (drop map.end input) ≡ Ok n → Same g n map.rows.rows → MeansInOrder g stream)

-- the bytes are a kd-tree file that means the geometry by some rows, whatever stands behind it, and the note is the map of exactly
-- these rows
pub record IsKdCoded (bytes note : List ℕ) (g : Geometry) : Type 0 where
  pub rows : Rows
  pub means : (more : List ℕ) → KdMeans g (bytes ++ more) rows
  pub map : note ≡ map_text_of g rows

-- the text means exactly the geometry in the profile of this number
abbrev pub IsReadAs : ℕ → List ℕ → Geometry → Type 0
IsReadAs profile text g = ply_read_in profile text ≡ Ok g

-- what is given is a yes, and no verdict
abbrev pub IsYes : Given → Type 0
IsYes (Written answer) = Unit {0}
IsYes (Differs v) = ⊥

-- a yes is given exactly where the input's stream means in a profile the geometry that its text means in it, by the rows of its map, and
-- with surfaces is glued as it
abbrev pub SaysWhetherSame : Profile → Bool → List ℕ → Given → Type 0
SaysWhetherSame p surface input given = IsOkAnd (parts_of input) (λ parts. (g : Geometry) (n : Meaning)
    → ply_read_in p.number parts.text ≡ Ok g → stream_in p parts.stream ≡ Ok n
    → IsYes given ↔ IsSame surface parts.map.cloud parts.map.rows.rows g n)

-- what a command keeps of its input: encoding keeps the geometry that the text, or the stream, means; the text of a stream, or of a kd-tree
-- file, is read as what that means; restoring gives the first order back; verifying says whether all is the same; and a kd-tree file keeps
-- the cloud that the text means
abbrev pub KeepsGeometry : Command → List ℕ → Given → Type 0
KeepsGeometry (command.Enc choice profile) input (Written answer) =
    IsOkAnd (ply_read_in profile.number input) (IsCoded choice answer.0 answer.1)
KeepsGeometry (command.Recode choice profile) input (Written answer) =
    IsOkAnd (meaning_in (profile_numbered profile.number) input) (IsCoded choice answer.0 answer.1)
KeepsGeometry (command.Dec profile) input (Written answer) =
    IsOkAnd (meaning_in (profile_numbered profile.number) input) (IsReadAs profile.number answer.0)
KeepsGeometry (command.Restore profile) input (Written answer) = IsInOrder (profile_numbered profile.number) input answer.0
KeepsGeometry (command.Verify surface profile) input given = SaysWhetherSame (profile_numbered profile.number) surface input given
KeepsGeometry command.KdEnc input (Written answer) = IsOkAnd (ply_read input) (IsKdCoded answer.0 answer.1)
KeepsGeometry command.KdDec input (Written answer) = IsOkAnd (kd_meaning input) (IsReadAs PROFILE_TWO.number answer.0)
KeepsGeometry c input given = Unit {0}
