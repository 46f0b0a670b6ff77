-- What a command gives from the bytes of its input: an output and a note, a verdict, or the first fault (this project's choice).
use Rattle.std.specs.Prelude.{ℕ, ◌&&◌, Bool, true, false, List, [], length, drop, Some, Result, Ok, Err, nat_lt, if◌then◌else◌}
use Rattle.drc_base.specs.declared.faults.Fault.{Fault}
use Rattle.drc_base.specs.declared.kinds.Kind.TheVariants as kind
use Rattle.drc_base.specs.declared.limits.TheConstants.{MAX_INPUT_BYTES}
use Rattle.drc_base.specs.Profile.{Profile, profile_numbered}
use Rattle.drc_base.specs.Steps.{◌>>=◌}
use Rattle.ply_mesh.specs.Text.{ply_text}
use Rattle.mesh_model.specs.declared.geometries.Geometry.{Geometry}
use Rattle.mesh_model.specs.declared.geometries.Geometry.TheVariants.{Mesh}
use Rattle.mesh_model.specs.Parts.{MeshParts}
use Rattle.mesh_model.specs.MapRead.{map_read}
use Rattle.mesh_model.specs.MapText.{map_text_of}
use Rattle.drc_gen.specs.declared.kinds.GenKind.{GenKind}
use Rattle.drc_gen.specs.Generated.{generated}
use Rattle.ply_mesh.specs.Read.{ply_read_in, ply_read}
use Rattle.drc_container.specs.declared.choice.methods.Method.{Method}
use Rattle.drc_container.specs.declared.choice.methods.Method.TheVariants as method
use Rattle.drc_container.specs.declared.choice.choices.Choice.{Choice}
use Rattle.drc_container.specs.writing.Encoded.{encoding_due as encoded}
use Rattle.drc_container.specs.writing.Chosen.{written as written_by}
use Rattle.drc_container.specs.reading.Stream.{meaning_in}
use Rattle.drc_info.specs.InfoText.{report_in}
use Rattle.drc_recode.specs.Restored.{restored_in}
use Rattle.kd_points.specs.Meaning.{kd_meaning}
use Rattle.kd_points.specs.Rows.{kd_rows}
use Rattle.kd_points.specs.Written.{cloud_in}
use Rattle.kd_points.specs.Written.{kd_due as kd_file}
use Rattle.drc_app.specs.Given.{Given, Written}
use Rattle.drc_app.specs.Verified.{verified_input}
use Rattle.drc_app.specs.Options.{no_choice}
use Rattle.drc_app.specs.Summary.{summary_text}
use Rattle.drc_app.specs.Help.{help_text, version_text}
use Rattle.drc_app.specs.declared.commands.Command.{Command}
use Rattle.drc_app.specs.declared.commands.Command.TheVariants as command
use Rattle.drc_app.specs.declared.commands.GenMesh.{GenMesh}
use Rattle.drc_app.specs.declared.summaries.Summary.{Summary}

-- the stream of a geometry, coded as chosen, and the map of its faces or points
unfoldable pub coded_due : Choice → Geometry → Result (List ℕ × List ℕ) Fault
coded_due choice g = do
  stream ← encoded g choice
  Ok (stream.0, map_text_of g stream.1)

-- the same of the geometry that a text means in a profile
abbrev pub stream_due : Profile → Choice → List ℕ → Result (List ℕ × List ℕ) Fault
stream_due p choice text = ply_read_in p.number text >>= λ g. coded_due choice g

-- the same of the geometry that a stream means in a profile
abbrev pub recoded_due : Profile → Choice → List ℕ → Result (List ℕ × List ℕ) Fault
recoded_due p choice stream = meaning_in p stream >>= λ g. coded_due choice g

-- the stream behind a map, read in a profile, in the order before the map's rows; no note
unfoldable pub restored_due : Profile → List ℕ → Result (List ℕ × List ℕ) Fault
restored_due p input = do
  map ← map_read input
  stream ← restored_in p map.cloud map.rows.rows (drop map.end input)
  Ok (stream, [])

-- the text of the geometry that a stream means in a profile; no note
unfoldable pub text_due : Profile → List ℕ → Result (List ℕ × List ℕ) Fault
text_due p stream = do
  g ← meaning_in p stream
  Ok (ply_text g, [])

-- the kd-tree file of a geometry, and the map of its points
unfoldable pub kd_coded_due : Geometry → Result (List ℕ × List ℕ) Fault
kd_coded_due g = do
  file ← kd_file g
  Ok (file, map_text_of g (kd_rows (cloud_in g)))

-- the same of the geometry that a text means
abbrev pub text_kd_due : List ℕ → Result (List ℕ × List ℕ) Fault
text_kd_due text = ply_read text >>= λ g. kd_coded_due g

-- the text of the cloud that a kd-tree file means; no note
unfoldable pub kd_text_due : List ℕ → Result (List ℕ × List ℕ) Fault
kd_text_due file = do
  g ← kd_meaning file
  Ok (ply_text g, [])

-- the report on a stream in a profile; no note
unfoldable pub report_due : Profile → List ℕ → Result (List ℕ × List ℕ) Fault
report_due p stream = do
  text ← report_in p stream
  Ok (text, [])

-- no option but a method
abbrev pub by_method : Method → Choice
by_method by = record no_choice { method = Some by }

-- how many bytes are written of a geometry by this method, with no other option
unfoldable pub length_due : Geometry → Method → ℕ
length_due g by = length (written_by g (by_method by)).0

-- what a summary says of a mesh that was asked for so
unfoldable pub summary_of : GenMesh → MeshParts → Summary
summary_of asked m = record {
  asked = asked;
  faces = length m.faces;
  points = length m.points;
  seq = length_due (Mesh m) method.Seq;
  eb = length_due (Mesh m) method.Eb;
  valence = length_due (Mesh m) method.Valence;
}

-- the summary of the generated mesh of this kind, size and seed; no note. There is always one, since no such mesh is refused
unfoldable pub summary_due : GenKind → ℕ → ℕ → List ℕ × List ℕ
summary_due kind size seed =
    (summary_text (summary_of (record { kind = kind; size = size; seed = seed }) (generated kind size seed)), [])

-- whether a command reads its input
abbrev pub reads : Command → Bool
reads (command.Gen mesh) = false
reads (command.Help topic) = false
reads command.Version = false
reads c = true

-- whether a command takes memory
abbrev pub takes_memory : Command → Bool
takes_memory (command.Help topic) = false
takes_memory command.Version = false
takes_memory c = true

-- an output and its note, where there are any
abbrev pub written_due : Result (List ℕ × List ℕ) Fault → Result Given Fault
written_due answer = answer >>= λ a. Ok (Written a)

-- what the command gives from bytes within the limit, where it reads them
abbrev pub worked : Command → List ℕ → Result Given Fault
worked (command.Enc choice profile) bytes = written_due (stream_due (profile_numbered profile.number) choice bytes)
worked (command.Dec profile) bytes = written_due (text_due (profile_numbered profile.number) bytes)
worked (command.Info profile) bytes = written_due (report_due (profile_numbered profile.number) bytes)
worked (command.Gen mesh) bytes = Ok (Written (summary_due mesh.kind mesh.size mesh.seed))
worked (command.Recode choice profile) bytes = written_due (recoded_due (profile_numbered profile.number) choice bytes)
worked (command.Restore profile) bytes = written_due (restored_due (profile_numbered profile.number) bytes)
worked (command.Verify surface profile) bytes = verified_input (profile_numbered profile.number) surface bytes
worked command.KdEnc bytes = written_due (text_kd_due bytes)
worked command.KdDec bytes = written_due (kd_text_due bytes)
worked (command.Help topic) bytes = Ok (Written (help_text topic, []))
worked command.Version bytes = Ok (Written (version_text, []))

-- too many bytes of input
abbrev pub input_limit : Fault
input_limit = record { kind = kind.InputLimit; at = MAX_INPUT_BYTES }

-- what the command gives from all bytes of its input: too many of them are a fault, where it reads them
abbrev pub command_due : Command → List ℕ → Result Given Fault
command_due c bytes = if reads c && nat_lt MAX_INPUT_BYTES (length bytes) then Err input_limit else worked c bytes
