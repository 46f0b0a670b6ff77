-- What a stream means (Draco Bitstream Specification 2.2, section "Draco Decoder"; the stream of clouds is this project's
-- choice).
use Rattle.std.specs.Prelude.{ℕ, ℤ, List, [], ◌∷◌, ◌++◌, map, None, Some, Result, Ok}
use Rattle.drc_base.specs.declared.faults.Fault.{Fault}
use Rattle.drc_base.specs.Profile.{Profile, profile}
use Rattle.drc_base.specs.Steps.{◌>>=◌}
use Rattle.drc_bits.specs.Reading.{Reading, Item, start_of}
use Rattle.mesh_model.specs.declared.geometries.Geometry.{Geometry}
use Rattle.mesh_model.specs.declared.geometries.Geometry.TheVariants as geometry
use Rattle.mesh_model.specs.Parts.{mesh_of, cloud_of}
use Rattle.seq_section.specs.declared.reading.SeqRead.{SeqRead}
use Rattle.seq_section.specs.Indices.{indices_opening_at, indices_at}
use Rattle.eb_section.specs.Connectivity.{Connectivity, connectivity_at, declared_at as edgebreaker_declared_at}
use Rattle.attr_section.specs.declared.decoder_heads.DecoderHead.{DecoderHead}
use Rattle.attr_section.specs.Heads.{heads_at}
use Rattle.attr_section.specs.Openings.{heads_opening_at}
use Rattle.attr_section.specs.Positions.{PositionsRead}
use Rattle.attr_section.specs.Attributes.{decoder_values_at, values_in}
use Rattle.drc_container.specs.Header.{header_at, cloud_points_at}
use Rattle.drc_container.specs.Columns.{column_row, cells_at}
use Rattle.drc_container.specs.declared.headers.Form.{Form}
use Rattle.drc_container.specs.declared.headers.Form.TheVariants as form
use Rattle.drc_container.specs.declared.reading.attributes.Attributes.{Attributes}
use Rattle.drc_container.specs.declared.reading.decoding.PointsRead.{PointsRead}
use Rattle.drc_container.specs.reading.Meaning.{Meaning, sequential_info, edgebreaker_info}
use Rattle.drc_container.specs.reading.OnSurface.{attributes_on, assembled_at}

-- the attributes of these decoders in turn, for so many entries, behind other attributes; without a surface none is predicted from
-- positions
unfoldable pub decoders_values_at : Profile → ℕ → Attributes → List DecoderHead → Reading → Item Attributes
decoders_values_at p entries before [] c = Ok (before, c)
decoders_values_at p entries before (d ∷ decoders) c =
    decoder_values_at p None PositionsRead.NotYet d entries (values_in before.values) c >>= λ x.
    decoders_values_at p entries (record { heads = before.heads ++ x.0.1.heads; values = before.values ++ x.0.0 }) decoders x.1

-- all attributes of a sequential stream: the heads of its decoders, and the values of each decoder in turn
unfoldable pub sequential_attributes_at : Profile → ℕ → Reading → Item Attributes
sequential_attributes_at p entries c = do
  decoders ← heads_at p None c
  decoders_values_at p entries (record { heads = []; values = [] }) decoders.0 decoders.1

-- the integers of point i that attributes give
abbrev pub row_of : Attributes → ℕ → List ℤ
row_of a i = column_row a.heads (map (λ v. v.values) a.values) i

-- the cells of the points that attributes give
abbrev pub points_of : ℕ → Attributes → List ℤ
points_of points a = cells_at a.heads (map (λ v. v.values) a.values) points

-- so many points of a sequential stream behind its connectivity, which begins at this place, and what is known beside them
unfoldable pub points_behind : Profile → ℕ → ℕ → Reading → Result PointsRead Fault
points_behind p from points c = do
  attributes ← sequential_attributes_at p points c
  Ok (record {
    heads = attributes.0.heads;
    cells = points_of points attributes.0;
    info = sequential_info from c.place points attributes.0 attributes.1;
  })

-- a sequential mesh behind its indices; its connectivity begins at this place
unfoldable pub mesh_behind : Profile → ℕ → SeqRead → Reading → Result Meaning Fault
mesh_behind p from indices c = do
  read ← points_behind p from indices.points c
  mesh ← mesh_of read.heads read.cells indices.faces
  Ok (record { geometry = geometry.Mesh mesh; surface = None; info = read.info })

-- a sequential mesh behind its header
unfoldable pub mesh_at : Profile → Reading → Result Meaning Fault
mesh_at p c = do
  indices ← indices_at p c
  mesh_behind p c.place indices.0 indices.1

-- a cloud behind its number of points, which stands at this place
unfoldable pub cloud_behind : Profile → ℕ → ℕ → Reading → Result Meaning Fault
cloud_behind p from points c = do
  read ← points_behind p from points c
  cloud ← cloud_of read.heads read.cells
  Ok (record { geometry = geometry.Cloud cloud; surface = None; info = read.info })

-- a cloud behind its header
unfoldable pub cloud_at : Profile → Reading → Result Meaning Fault
cloud_at p c = do
  points ← cloud_points_at p c
  cloud_behind p c.place points.0 points.1

-- an Edgebreaker mesh behind its connectivity, which begins at this place
unfoldable pub surface_behind : Profile → ℕ → Connectivity → Reading → Result Meaning Fault
surface_behind p from s c = do
  attributes ← attributes_on p s c
  mesh ← assembled_at p attributes.1.place s.faces attributes.0
  Ok (record {
    geometry = geometry.Mesh mesh;
    surface = Some (record { faces = s.faces; glued = s.glued });
    info = edgebreaker_info from c.place s attributes.0.info attributes.1;
  })

-- an Edgebreaker mesh behind its header
unfoldable pub edgebreaker_at : Profile → Reading → Result Meaning Fault
edgebreaker_at p c = do
  connectivity ← connectivity_at p c
  surface_behind p c.place connectivity.0 connectivity.1

-- what follows a header of this form
abbrev pub body_at : Profile → Form → Reading → Result Meaning Fault
body_at p form.SequentialMesh c = mesh_at p c
body_at p form.EdgebreakerMesh c = edgebreaker_at p c
body_at p form.Cloud c = cloud_at p c

-- what a stream means in a profile: its geometry and surface, and where its parts stand; or its first fault. Bytes after its end count
-- for nothing
unfoldable pub stream_in : Profile → List ℕ → Result Meaning Fault
stream_in p bytes = do
  header ← header_at (start_of bytes)
  body_at p header.0 header.1

-- what a stream means: what it means in the profile of decoding
abbrev pub stream : List ℕ → Result Meaning Fault
stream bytes = stream_in profile bytes

-- the geometry that a stream means in a profile, or its first fault
abbrev pub meaning_in : Profile → List ℕ → Result Geometry Fault
meaning_in p bytes = stream_in p bytes >>= λ d. Ok d.geometry

-- the geometry that a stream means in the profile of decoding
abbrev pub meaning_of : List ℕ → Result Geometry Fault
meaning_of bytes = meaning_in profile bytes

-- what a cloud declares: its number of points, and what the heads of its attributes open with
unfoldable pub cloud_declared_at : Profile → Reading → Item ℕ
cloud_declared_at p c = do
  points ← cloud_points_at p c
  heads_opening_at None points.1

-- what a stream declares, whose faults come before out of memory: the header, then a cloud's numbers of points, of decoders and of the
-- first one's attributes, or the two numbers and the method of sequential connectivity, or the numbers that Edgebreaker connectivity
-- declares
abbrev pub form_declared_at : Form → Reading → Result ℕ Fault
form_declared_at form.SequentialMesh c = indices_opening_at profile c >>= λ x. Ok x.1.place
form_declared_at form.EdgebreakerMesh c = edgebreaker_declared_at profile c >>= λ x. Ok x.1.place
form_declared_at form.Cloud c = cloud_declared_at profile c >>= λ x. Ok x.1.place

unfoldable pub declared_of : List ℕ → Result ℕ Fault
declared_of bytes = header_at (start_of bytes) >>= λ h. form_declared_at h.0 h.1
