-- What coding a stream in another way gives, and what restoring one gives (this project's choice).
use Rattle.std.specs.Prelude.{ℕ, ◌≡◌, Bool, List, map, Result, Ok}
use Rattle.drc_base.specs.declared.faults.Fault.{Fault}
use Rattle.drc_base.specs.Profile.{Profile}
use Rattle.drc_base.specs.Steps.{◌>>=◌}
use Rattle.mesh_model.specs.declared.geometries.Geometry.{Geometry}
use Rattle.mesh_model.specs.Same.{Rows, Same}
use Rattle.drc_container.specs.declared.choice.choices.Choice.{Choice}
use Rattle.drc_container.specs.writing.Encoded.{Means}
use Rattle.drc_container.specs.writing.Layout.{IsLaidOut}
use Rattle.drc_container.specs.reading.Stream.{meaning_in}
use Rattle.drc_recode.specs.FirstOrder.{first_order, StandsAgain}
use Rattle.drc_recode.specs.Recoded.{recoded_in}
use Rattle.drc_recode.specs.Restored.{sequential_choice, restored_in, MeansInOrder}
use Rattle.drc_c.specs.declared.streams.DrcRow.{DrcRow}
use Rattle.drc_c.specs.Encoded.{c_stream}
use Rattle.drc_c.specs.Streams.{row_told, row_meant}

-- the bytes and the map of the geometry that a stream means in a profile, coded as chosen; or the first fault of the stream, then of the
-- encoding
unfoldable pub recoded_told : Profile → List ℕ → Choice → Result (List ℕ × List DrcRow) Fault
recoded_told p bytes choice = recoded_in p bytes choice >>= λ e. Ok (c_stream e)

-- this stream and this map are those of the recoding: the stream means the geometry of the old one in a profile, by the map, and is coded
-- as chosen
pub record IsRecoding (p : Profile) (bytes : List ℕ) (choice : Choice) (written : List ℕ) (map_rows : List DrcRow) : Type 0 where
  pub exact : recoded_told p bytes choice ≡ Ok (written, map_rows)
  pub geometry : Geometry
  pub read : meaning_in p bytes ≡ Ok geometry
  pub rows : Rows
  pub rows_are : map_rows ≡ map row_told rows
  pub means : Means geometry choice written rows
  pub layout : IsLaidOut geometry choice written

-- the stream of another one, read in a profile, in the order before the rows of a map, of a cloud or of a mesh; or the first fault of the
-- stream, of the map, then of the encoding
abbrev pub restored_told : Profile → Bool → List DrcRow → List ℕ → Result (List ℕ) Fault
restored_told p cloud c_stream bytes = restored_in p cloud (map row_meant c_stream) bytes

-- a stream is another one, read in a profile, in the order before these rows, coded by the sequential method: of each geometry that the
-- other one is by the rows, it has the faces or the points in their order
pub record IsRestoring (p : Profile) (c_stream : List DrcRow) (bytes written : List ℕ) : Type 0 where
  pub geometry : Geometry
  pub read : meaning_in p bytes ≡ Ok geometry
  pub stands : StandsAgain geometry (first_order geometry (map row_meant c_stream)) (map row_meant c_stream)
  pub order : (g : Geometry) → Same g geometry (map row_meant c_stream) → MeansInOrder g written
  pub layout : IsLaidOut (first_order geometry (map row_meant c_stream)) sequential_choice written
