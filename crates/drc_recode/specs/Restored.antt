-- A stream in the order before its faces, or the points of its cloud, were renumbered (this project's choice).
use Rattle.std.specs.Prelude.{ℕ, ◌≡◌, Bool, false, List, None, Some, Result, Ok}
use Rattle.drc_base.specs.declared.faults.Fault.{Fault}
use Rattle.drc_base.specs.Profile.{Profile, profile, profile_numbered}
use Rattle.drc_base.specs.Steps.{◌>>=◌}
use Rattle.mesh_model.specs.declared.geometries.Geometry.{Geometry}
use Rattle.mesh_model.specs.Renumbering.{plain}
use Rattle.mesh_model.specs.Same.{Rows, Same}
use Rattle.mesh_model.specs.SameLaws.{count_of}
use Rattle.drc_container.specs.declared.choice.choices.Choice.{Choice}
use Rattle.drc_container.specs.declared.choice.methods.Method.TheVariants as method
use Rattle.drc_container.specs.choice.Choice.{written_number}
use Rattle.drc_container.specs.writing.Encoded.{encoding_due}
use Rattle.drc_container.specs.reading.Stream.{meaning_in}
use Rattle.drc_recode.specs.PutBack.{put_back}

-- the sequential method, and nothing else chosen
abbrev pub sequential_choice : Choice
sequential_choice = record { method = Some method.Seq; index = None; predict = None; walk = None; plain_values = false }

-- the bytes of a geometry in order, or why it isn't encoded so
abbrev pub bytes_in_order : Geometry → Result (List ℕ) Fault
bytes_in_order g = encoding_due g sequential_choice >>= λ w. Ok w.0

-- the bytes that are due of a stream in a profile, in the order before the rows of a map: or the first fault of the stream, why its
-- geometry can't be put back, or why it isn't encoded then
abbrev pub restored_in : Profile → Bool → Rows → List ℕ → Result (List ℕ) Fault
restored_in p cloud rows bytes = meaning_in p bytes >>= λ g. put_back cloud rows g >>= λ first. bytes_in_order first

-- the same in the profile of decoding
abbrev pub restored_stream : Bool → Rows → List ℕ → Result (List ℕ) Fault
restored_stream cloud rows bytes = restored_in profile cloud rows bytes

-- bytes mean a geometry in its own order: what they mean, in the first profile that has all that is written, is that geometry, face by face
-- and corner by corner (or point by point), with the same integers
pub record MeansInOrder (g : Geometry) (bytes : List ℕ) : Type 0 where
  pub decoded : Geometry
  pub read : meaning_in (profile_numbered (written_number g sequential_choice)) bytes ≡ Ok decoded
  pub same : Same g decoded (plain (count_of g))
