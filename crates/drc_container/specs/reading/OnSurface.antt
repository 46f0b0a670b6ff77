-- The attributes of an Edgebreaker mesh, whose values stand on its surface (Draco Bitstream Specification 2.2, sections "Attributes
-- Decoder" and "Edgebreaker Connectivity"; that equal rows of corners become one point is this project's choice).
use Rattle.std.specs.Prelude.{◌≡◌, ℕ, ◌<◌, ◌*◌, nat_le, Bool, List, [], ◌∷◌, ◌++◌, length, map, get_or, sum_by, Option, None, Some}
use Rattle.std.specs.Prelude.{Result, Ok, Err, if◌then◌else◌}
use Rattle.drc_base.specs.declared.faults.Fault.{Fault}
use Rattle.drc_base.specs.declared.kinds.Kind.TheVariants.{PointLimit, ValueLimit}
use Rattle.drc_base.specs.Profile.{Profile}
use Rattle.drc_base.specs.Steps.{◌>>=◌}
use Rattle.drc_bits.specs.Reading.{Reading, Item}
use Rattle.attr_heads.specs.declared.heads.Head.{Head}
use Rattle.mesh_model.specs.Groups.{AttrTable}
use Rattle.attr_heads.specs.FirstFault.{unless, first_fault, value_unless}
use Rattle.attr_heads.specs.Head.{width_of}
use Rattle.mesh_model.specs.Parts.{MeshParts}
use Rattle.mesh_model.specs.Assembled.{assembled}
use Rattle.corner_table.specs.Sides.{Side, Gluing}
use Rattle.rans_binary.specs.Blocks.{Block}
use Rattle.walk_order.specs.OfSurface.{depth_first_of, prediction_degree_of, entries_of}
use Rattle.seams.specs.Seams.{flag_at, unseamed}
use Rattle.seams.specs.SeamBits.{flags_of_bits}
use Rattle.corner_table.specs.Ordered.{Ordered}
use Rattle.attr_section.specs.declared.decoder_heads.DecoderHead.{DecoderHead}
use Rattle.attr_section.specs.declared.values.Values.{Values}
use Rattle.attr_section.specs.Heads.{heads_at}
use Rattle.attr_section.specs.Positions.{PositionsRead, with_attribute}
use Rattle.attr_section.specs.Attributes.{decoder_values_at}
use Rattle.eb_section.specs.Connectivity.{Connectivity}
use Rattle.drc_container.specs.declared.reading.info.AttrInfo.{AttrInfo}
use Rattle.drc_container.specs.reading.Meaning.{attr_infos}

-- the order of entries of a surface: depth first, or by prediction degree
abbrev pub order_by : Bool → ℕ → Gluing → List Side
order_by degree faces g = if degree then prediction_degree_of faces g else depth_first_of faces g

-- a surface in this order
abbrev pub in_order : ℕ → Gluing → List Side → Ordered
in_order faces g order = record { gluing = g; corners = order; entries = entries_of faces g order }

-- a surface in its order
unfoldable pub ordered_by : Bool → ℕ → Gluing → Ordered
ordered_by degree faces g = in_order faces g (order_by degree faces g)

-- what stands for the seams of an attribute data that isn't there
abbrev pub no_block : Block
no_block = record { ones = 0; state = record { number = 0; bytes = [] } }

-- the block of seam bits of an attribute data
abbrev pub seams_of : List Block → Option ℕ → Block
seams_of blocks None = no_block
seams_of blocks (Some id) = get_or blocks id no_block

-- a decoder's attribute data is one of so many
pub record HasSeams (blocks : ℕ) (d : DecoderHead) : Type 0 where
  pub id : ℕ
  pub is : d.data_id ≡ Some id
  pub within : id < blocks

-- a surface cut at the seams that the first bits of a block give
abbrev pub cut_at : ℕ → Gluing → Block → Gluing
cut_at faces g block = unseamed (flag_at (flags_of_bits faces g block)) g

-- the surface on which a decoder's values stand: cut at the seams of its attribute data, where they belong to corners
abbrev pub cut_for : Connectivity → DecoderHead → Gluing
cut_for s d = if d.corner then cut_at s.faces s.glued (seams_of s.seams d.data_id) else s.glued

-- this surface in the order of the decoder
abbrev pub ordered_for : Connectivity → DecoderHead → Ordered
ordered_for s d = ordered_by d.degree s.faces (cut_for s d)

-- attributes on a surface: what each one is, its values with the entry of each corner, and what is known of it beside these
pub record SurfaceAttributes : Type 0 where
  pub heads : List Head
  pub tables : List AttrTable
  pub info : List AttrInfo

-- no attributes
abbrev pub no_attributes : SurfaceAttributes
no_attributes = record { heads = []; tables = []; info = [] }

-- the values of attributes, each with the entries of the corners
abbrev pub tables_of : List ℕ → List Values → List AttrTable
tables_of entries values = map (λ v. record { values = v.values; of_corner = entries }) values

-- the attributes of a decoder over a surface in this order
abbrev pub decoder_attributes : Ordered → DecoderHead → List Values → SurfaceAttributes
decoder_attributes w d values = record {
  heads = d.heads;
  tables = tables_of w.entries values;
  info = attr_infos (length w.corners) d.heads values;
}

-- attributes behind others
abbrev pub attributes_joined : SurfaceAttributes → SurfaceAttributes → SurfaceAttributes
attributes_joined a b = record { heads = a.heads ++ b.heads; tables = a.tables ++ b.tables; info = a.info ++ b.info }

-- how many values attributes have
abbrev pub values_on : List AttrTable → ℕ
values_on tables = sum_by (λ t. length t.values) tables

-- what has been read of the positions behind these attributes: the first one of usage 0
abbrev pub positions_from : PositionsRead → List Head → List AttrTable → PositionsRead
positions_from found [] tables = found
positions_from found (h ∷ heads) [] = found
positions_from found (h ∷ heads) (t ∷ tables) = positions_from (with_attribute found h t.values (Some t.of_corner)) heads tables

abbrev pub positions_among : SurfaceAttributes → PositionsRead
positions_among a = positions_from PositionsRead.NotYet a.heads a.tables

-- the attributes of a decoder over a surface in this order, behind so many values of other attributes and what was read of the positions
unfoldable pub decoder_on : Profile → Ordered → PositionsRead → DecoderHead → ℕ → Reading → Item SurfaceAttributes
decoder_on p w found d spent c =
    decoder_values_at p (Some w) found d (length w.corners) spent c >>= λ x. Ok (decoder_attributes w x.0.1 x.0.0, x.1)

-- the attributes of these decoders in turn, behind others
unfoldable pub surface_decoders_at : Profile → Connectivity → SurfaceAttributes → List DecoderHead → Reading → Item SurfaceAttributes
surface_decoders_at p s before [] c = Ok (before, c)
surface_decoders_at p s before (d ∷ decoders) c =
    decoder_on p (ordered_for s d) (positions_among before) d (values_on before.tables) c >>= λ x.
    surface_decoders_at p s (attributes_joined before x.0) decoders x.1

-- all attributes of an Edgebreaker mesh: the heads of its decoders, and the values of each decoder in turn
unfoldable pub attributes_on : Profile → Connectivity → Reading → Item SurfaceAttributes
attributes_on p s c = do
  decoders ← heads_at p (Some s.attr_data) c
  surface_decoders_at p s no_attributes decoders.0 decoders.1

-- what is made at the end of a stream has its faults at that place
abbrev pub at_end : {A : Type 0} → ℕ → Result A Fault → Result A Fault
at_end end (Ok x) = Ok x
at_end end (Err f) = Err (record { kind = f.kind; at = end })

-- the fault of a mesh of more points or of more values, that is points times width, than a profile accepts
abbrev pub counts_in : Profile → MeshParts → Option Fault
counts_in p m =
    let points = length m.points in
    let values = points * width_of m.heads in
    first_fault (unless (nat_le points p.points) PointLimit points ∷ unless (nat_le values p.values) ValueLimit values ∷ [])

-- a mesh, where a profile accepts its counts
abbrev pub accepted : Profile → MeshParts → Result MeshParts Fault
accepted p m = value_unless (counts_in p m) m

-- the mesh of tables on a surface of so many faces, where a profile accepts its counts
unfoldable pub assembled_in : Profile → List Head → List AttrTable → ℕ → Result MeshParts Fault
assembled_in p heads tables faces = assembled heads tables faces >>= accepted p

-- the mesh of attributes on a surface of so many faces, at the end of the stream, which stands at this place
abbrev pub assembled_at : Profile → ℕ → ℕ → SurfaceAttributes → Result MeshParts Fault
assembled_at p end faces a = at_end end (assembled_in p a.heads a.tables faces)
