-- What is written of a geometry by the sequential method (Draco Bitstream Specification 2.2, sections "Header" and
-- "Sequential Connectivity"; the stream of clouds and which of the allowed spellings is written are this project's choice).
use Rattle.std.specs.Prelude.{ℕ, ℤ, Bool, false, List, [], ◌∷◌, ◌++◌, length, None, if◌then◌else◌}
use Rattle.drc_bits.specs.Bits.{low_bytes}
use Rattle.attr_heads.specs.declared.heads.Head.{Head}
use Rattle.mesh_model.specs.declared.geometries.Geometry.{Geometry}
use Rattle.mesh_model.specs.declared.geometries.Geometry.TheVariants.{Mesh, Cloud}
use Rattle.mesh_model.specs.Contents.{is_mesh, heads_in, points_in}
use Rattle.seq_section.specs.Indices.{indices_bytes}
use Rattle.attr_section.specs.declared.decoder_heads.DecoderHead.{DecoderHead}
use Rattle.attr_section.specs.declared.values.Values.{Values}
use Rattle.attr_section.specs.Heads.{heads_bytes}
use Rattle.attr_section.specs.Positions.{PositionsRead}
use Rattle.attr_section.specs.Written.{decoder_values_bytes}
use Rattle.drc_container.specs.declared.choice.choices.Choice.{Choice}
use Rattle.drc_container.specs.declared.choice.predicts.Predict.{Predict}
use Rattle.drc_container.specs.Header.{magic, minor_of}
use Rattle.drc_container.specs.Columns.{columns_of}
use Rattle.drc_container.specs.choice.Predicts.{asked}
use Rattle.drc_container.specs.choice.Choice.{predict_chosen, index_of, is_packed}

-- the geometry type: 0 a cloud, 1 a mesh
abbrev pub geometry_type : Geometry → ℕ
geometry_type g = if is_mesh g then 1 else 0

-- the header of a geometry type and a method: magic, version, the type, the method and no flags
abbrev pub header_of_type : ℕ → ℕ → List ℕ
header_of_type geometry method = magic ++ (2 ∷ minor_of geometry ∷ geometry ∷ method ∷ 0 ∷ 0 ∷ [])

-- the header of a geometry, with this method
unfoldable pub header_bytes : ℕ → Geometry → List ℕ
header_bytes method g = header_of_type (geometry_type g) method

-- the connectivity: the indices of a mesh, the number of points of a cloud
abbrev pub sequential_connectivity_bytes : Bool → Geometry → List ℕ
sequential_connectivity_bytes packed (Mesh m) = indices_bytes packed m.faces (length m.points)
sequential_connectivity_bytes packed (Cloud c) = low_bytes 4 (length c.points)

-- the one decoder of all attributes
abbrev pub decoder_of : Geometry → DecoderHead
decoder_of g = record { data_id = None; corner = false; degree = false; heads = heads_in g }

-- columns of integers, each of an attribute with its head, with the prediction that is asked of it
abbrev pub asked_values : Predict → List Head → List (List ℤ) → List Values
asked_values p [] columns = []
asked_values p (h ∷ heads) [] = []
asked_values p (h ∷ heads) (column ∷ columns) = record { values = column; predict = asked p h; at = 0 } ∷ asked_values p heads columns

-- the coded values of each attribute: its integers point after point
abbrev pub values_of : Geometry → Predict → List Values
values_of g p = asked_values p (heads_in g) (columns_of (heads_in g) (points_in g))

-- the heads of the attributes
abbrev pub attribute_heads_bytes : Geometry → List ℕ
attribute_heads_bytes g = heads_bytes false (decoder_of g ∷ [])

-- the attributes: their heads, then their values by what is chosen of predictions, as they are or in symbol blocks; without a surface none
-- is predicted from positions
unfoldable pub sequential_attributes_bytes : Bool → Geometry → Predict → List ℕ
sequential_attributes_bytes plain g p =
    attribute_heads_bytes g ++ decoder_values_bytes plain None PositionsRead.NotYet (heads_in g) (values_of g p)

-- the sequential stream
unfoldable pub stream_bytes : Geometry → Choice → List ℕ
stream_bytes g choice =
    header_bytes 0 g
    ++ (sequential_connectivity_bytes (is_packed (index_of choice)) g
    ++ sequential_attributes_bytes choice.plain_values g (predict_chosen g choice))
