-- What `verify` reads and answers (this project's choice).
use Rattle.std.specs.Prelude.{ℕ, ◌+◌, Bool, List, [], ◌++◌, length, take, drop, codes, decimal, nat_eq, nat_le, if◌then◌else◌}
use Rattle.std.specs.Prelude.{Option, None, Some, option_and_then, Result, Ok}
use Rattle.std.specs.List.{starts_with}
use Rattle.drc_base.specs.declared.faults.Fault.{Fault}
use Rattle.drc_base.specs.Profile.{Profile}
use Rattle.drc_base.specs.Steps.{◌>>=◌}
use Rattle.mesh_model.specs.declared.map_reading.MapRead.{MapRead}
use Rattle.mesh_model.specs.MapRead.{line_or_fault, map_read}
use Rattle.mesh_model.specs.NumberText.{number_then}
use Rattle.drc_verify.specs.declared.verdicts.Verdict.{Verdict}
use Rattle.drc_verify.specs.declared.verdicts.Verdict.TheVariants as verdict
use Rattle.drc_verify.specs.Checked.{verdict_in as checked}
use Rattle.drc_app.specs.Given.{Given, Written, Differs}

-- the line `ply <n>` at the front of some bytes: n, and what stands behind the line
unfoldable pub ply_line : List ℕ → Option (ℕ × List ℕ)
ply_line bytes = if starts_with nat_eq bytes (codes "ply ") then number_then 10 (drop 4 bytes) else None

-- so many bytes of those behind the line, and the rest of them
abbrev pub cut_by : ℕ × List ℕ → Option (List ℕ × List ℕ)
cut_by line = if nat_le line.0 (length line.1) then Some (take line.0 line.1, drop line.0 line.1) else None

-- the text that such a line counts, and the stream behind it
unfoldable pub text_and_stream : List ℕ → Option (List ℕ × List ℕ)
text_and_stream bytes = option_and_then cut_by (ply_line bytes)

-- a map, and the text and the stream behind it
pub record Parts : Type 0 where
  pub map : MapRead
  pub text : List ℕ
  pub stream : List ℕ

-- the parts of an input: the map, then the line `ply <n>`, whose number is that behind the map's last line, n bytes of text, and the
-- stream; or the map's fault, or that of this line, where it isn't one or fewer bytes follow
unfoldable pub parts_of : List ℕ → Result Parts Fault
parts_of input =
    map_read input >>= λ map. line_or_fault (length map.rows.rows + 2) (text_and_stream (drop map.end input)) >>= λ parts.
    Ok (record { map = map; text = parts.0; stream = parts.1 })

-- the line of a yes: how many rows there are
abbrev pub same_line : ℕ → List ℕ
same_line count = codes "same " ++ decimal count ++ codes "\n"

-- a yes is an output; another verdict is given in the note
abbrev pub given_by : ℕ → Verdict → Given
given_by count verdict.Same = Written (same_line count, [])
given_by count v = Differs v

-- the verdict on the parts of an input, whose stream is read in a profile, or their first fault; and with surfaces, what is missing for
-- them
unfoldable pub verified_input : Profile → Bool → List ℕ → Result Given Fault
verified_input p surface input = do
  parts ← parts_of input
  v ← checked p surface parts.map.cloud parts.map.rows.rows parts.text parts.stream
  Ok (given_by (length parts.map.rows.rows) v)
