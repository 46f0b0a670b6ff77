-- How a stream is coded, read off its bytes (Draco Bitstream Specification 2.2, sections "Header", "Sequential
-- Connectivity", "Edgebreaker Connectivity", "Attributes Decoder" and "Sequential Attributes").
use Rattle.drc_base.specs.Profile.{Profile, profile_numbered}
use Rattle.std.specs.Prelude.{◌≡◌, ℕ, ◌+◌, ◌==◌, ◌&&◌, Bool, ℤ, List, [], ◌∷◌, map, flat_map, replicate, length, slice_index, drop}
use Rattle.std.specs.Prelude.{Option, None, Some, Result, Ok, Err, if◌then◌else◌}
use Rattle.std.specs.List.{enumerate_from, zip}
use Rattle.std.specs.Ordering.{int_eq}
use Rattle.drc_base.specs.declared.faults.Fault.{Fault}
use Rattle.drc_base.specs.Steps.{◌>>=◌}
use Rattle.drc_bits.specs.Reading.{Item}
use Rattle.attr_heads.specs.declared.heads.Head.{Head}
use Rattle.mesh_model.specs.declared.geometries.Geometry.{Geometry}
use Rattle.mesh_model.specs.Contents.{is_mesh, heads_in}
use Rattle.seq_section.specs.declared.reading.Opening.{Opening}
use Rattle.seq_section.specs.Indices.{indices_opening_at}
use Rattle.predict.specs.declared.schemes.Prediction.TheVariants as prediction
use Rattle.predict.specs.Schemes.{code_of}
use Rattle.attr_section.specs.declared.decoder_heads.DecoderHead.{DecoderHead}
use Rattle.attr_section.specs.declared.values.Values.{Values}
use Rattle.attr_section.specs.Heads.{position_id, heads_at}
use Rattle.attr_section.specs.Positions.{PositionsRead}
use Rattle.attr_section.specs.Written.{settled}
use Rattle.drc_container.specs.declared.choice.methods.Method.{Method}
use Rattle.drc_container.specs.declared.choice.methods.Method.TheVariants as method
use Rattle.drc_container.specs.declared.choice.choices.Choice.{Choice}
use Rattle.drc_container.specs.declared.reading.info.AttrInfo.{AttrInfo}
use Rattle.drc_container.specs.declared.reading.info.StreamInfo.{StreamInfo}
use Rattle.drc_container.specs.choice.Choice.{method_of, is_sequential, index_of, is_packed, predict_chosen, written_number}
use Rattle.drc_container.specs.writing.Written.{values_of}
use Rattle.drc_container.specs.writing.WrittenOnSurface.{decoded, is_cornered, is_by_degree, surface_order, coded_by, positions_before}
use Rattle.drc_container.specs.writing.Chosen.{mesh_in, coding_of}
use Rattle.drc_container.specs.reading.Stream.{stream_in}

-- how an attribute is coded: the element type (0 vertices, 1 corners) and the walk (0 depth first, 1 by prediction degree) of its decoder,
-- both 0 in a sequential stream; its prediction (-2 none, 0 difference, 1 parallelogram, 4 constrained multi-parallelogram, 5 texture
-- coordinates from positions, 6 normals of faces); and the byte that says whether its values are compressed (0 as they are, else in a
-- symbol block)
pub record AttrLayout : Type 0 where
  pub element : ℕ
  pub walk : ℕ
  pub predict : ℤ
  pub compressed : ℕ

-- how a stream is coded: the method of its header (0 sequential, 1 Edgebreaker), that of the indices of a sequential mesh
-- (0 packed, 1 plain), the traversal of Edgebreaker (0 standard, 2 valence), and its attributes
pub record Layout : Type 0 where
  pub method : ℕ
  pub index : Option ℕ
  pub traversal : Option ℕ
  pub attributes : List AttrLayout

-- how far behind the byte of a prediction stands the one that says whether values are compressed: behind the transform, where values are
-- corrected, as by each prediction but none
abbrev pub compressed_behind : ℤ → ℕ
compressed_behind code = if int_eq code (code_of prediction.Off) then 1 else 2

-- where it stands for an attribute of which this is known
abbrev pub compressed_place : AttrInfo → ℕ
compressed_place a = a.at + compressed_behind a.predict

-- how an attribute that stands so in these bytes is coded, beside its element type and walk
abbrev pub attr_layout : List ℕ → ℕ × ℕ → AttrInfo → AttrLayout
attr_layout bytes link a = record {
  element = link.0;
  walk = link.1;
  predict = a.predict;
  compressed = slice_index bytes (compressed_place a);
}

-- how attributes that stand so in these bytes are coded, with the element type and the walk of each
abbrev pub attr_layouts : List ℕ → List (ℕ × ℕ) → List AttrInfo → List AttrLayout
attr_layouts bytes links [] = []
attr_layouts bytes [] (a ∷ attrs) = []
attr_layouts bytes (link ∷ links) (a ∷ attrs) = attr_layout bytes link a ∷ attr_layouts bytes links attrs

-- the element type and the walk of each attribute of these decoders
abbrev pub links_of : Item (List DecoderHead) → List (ℕ × ℕ)
links_of (Ok x) = flat_map (λ d. replicate (length d.heads) ((if d.corner then 1 else 0), (if d.degree then 1 else 0))) x.0
links_of (Err f) = []

-- the method of the indices of an opening
abbrev pub opening_method : Item Opening → Option ℕ
opening_method (Ok x) = Some x.0.method
opening_method (Err f) = None

-- the bytes of a header that say the geometry type and the method
abbrev pub type_place : ℕ
type_place = 7

abbrev pub method_place : ℕ
method_place = 8

-- beside how many attribute data heads are read: none under the sequential method; under Edgebreaker beside so many that
-- every data id is known, since the ids of a stream that means something were tested where they stand
abbrev pub attr_data_of : List ℕ → Option ℕ
attr_data_of bytes = if slice_index bytes method_place == 0 then None else Some position_id

-- the element type and the walk of each attribute, read off the heads, which stand at this place
abbrev pub links_layout : Profile → List ℕ → ℕ → List (ℕ × ℕ)
links_layout p bytes place = links_of (heads_at p (attr_data_of bytes) (record { place = place; rest = drop place bytes }))

-- the traversal of an Edgebreaker mesh: the first byte of its connectivity, which stands at this place
abbrev pub traversal_layout : List ℕ → ℕ → Option ℕ
traversal_layout bytes place =
    if (slice_index bytes type_place == 1) && (slice_index bytes method_place == 1) then Some (slice_index bytes place) else None

-- the method of the indices of a sequential mesh; its connectivity stands at this place
abbrev pub index_layout : Profile → List ℕ → ℕ → Option ℕ
index_layout p bytes place =
    if (slice_index bytes type_place == 1) && (slice_index bytes method_place == 0)
    then opening_method (indices_opening_at p (record { place = place; rest = drop place bytes })) else None

-- how a stream is coded of which this is known in a profile
abbrev pub layout_by : Profile → List ℕ → StreamInfo → Layout
layout_by p bytes info = record {
  method = slice_index bytes method_place;
  index = index_layout p bytes info.connectivity.0;
  traversal = traversal_layout bytes info.connectivity.0;
  attributes = attr_layouts bytes (links_layout p bytes (info.connectivity.0 + info.connectivity.1)) info.attrs;
}

-- how a stream is coded that is read in a profile, or its first fault there
abbrev pub layout_in : Profile → List ℕ → Result Layout Fault
layout_in p bytes = stream_in p bytes >>= λ d. Ok (layout_by p bytes d.info)

-- the method byte of a method
abbrev pub method_byte : Method → ℕ
method_byte method.Seq = 0
method_byte method.Eb = 1
method_byte method.Valence = 1

-- the traversal of a method
abbrev pub traversal_of : Method → Option ℕ
traversal_of method.Seq = None
traversal_of method.Eb = Some 0
traversal_of method.Valence = Some 2

-- a truth as a byte
abbrev pub bit_byte : Bool → ℕ
bit_byte b = if b then 1 else 0

-- how an attribute of this element type, walk and prediction is coded by a choice
abbrev pub attr_coded : Choice → ℕ → ℕ → ℤ → AttrLayout
attr_coded choice element walk predict = record {
  element = element;
  walk = walk;
  predict = predict;
  compressed = if choice.plain_values then 0 else 1;
}

-- how an attribute is coded by the sequential method: it has neither element type nor walk, and its prediction is the one that is settled
-- without a surface
abbrev pub attr_in_order : Choice → Head → Values → AttrLayout
attr_in_order choice h v = attr_coded choice 0 0 (settled None PositionsRead.NotYet h v)

-- how attribute k, which has this head, is coded by Edgebreaker: its values belong to corners where it has seams, and else may be ordered
-- by prediction degree; its prediction is the one that is settled over its surface, behind the positions in front of it
abbrev pub attr_on_surface : Geometry → Choice → ℕ → Head → AttrLayout
attr_on_surface g choice k h =
    let d = decoded (mesh_in g) in
    let coding = coding_of g choice in
    attr_coded choice (bit_byte (is_cornered d k)) (bit_byte (is_by_degree coding d k))
    (settled (Some (surface_order coding d k)) (positions_before coding d k) h (coded_by coding d k))

-- how the attributes are coded by a choice
abbrev pub attributes_chosen : Geometry → Choice → List AttrLayout
attributes_chosen g choice =
    if is_sequential (method_of g choice)
    then map (λ (h, v). attr_in_order choice h v) (zip (heads_in g) (values_of g (predict_chosen g choice)))
    else map (λ (k, h). attr_on_surface g choice k h) (enumerate_from 0 (heads_in g))

-- how a geometry is coded by a choice
abbrev pub layout_chosen : Geometry → Choice → Layout
layout_chosen g choice = record {
  method = method_byte (method_of g choice);
  index = if is_mesh g && is_sequential (method_of g choice) then Some (if is_packed (index_of choice) then 0 else 1) else None;
  traversal = traversal_of (method_of g choice);
  attributes = attributes_chosen g choice;
}

-- bytes are coded as chosen, in the first profile that has all that is written
abbrev pub IsLaidOut : Geometry → Choice → List ℕ → Type 0
IsLaidOut g choice bytes = layout_in (profile_numbered (written_number g choice)) bytes ≡ Ok (layout_chosen g choice)
