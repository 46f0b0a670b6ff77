-- What is written of a mesh by Edgebreaker: the trace of its surface, and each attribute in a decoder of its own, its values in the order
-- of a walk over the surface as it is decoded (Draco Bitstream Specification 2.2, sections "Edgebreaker Connectivity" and "Attributes
-- Decoder"; the pairs, the order of faces and the seams that are written are this project's choice).
use Rattle.std.specs.Prelude.{ℕ, ◌-◌, ◌==◌, ◌&&◌, Bool, true, not, nat_lt, ℤ, pos, List, [], ◌∷◌, ◌++◌, length, map, flat_map, reverse, take, get_or, Some}
use Rattle.std.specs.Prelude.{if◌then◌else◌}
use Rattle.std.specs.List.{range_with_len, enumerate_from, list_any}
use Rattle.attr_heads.specs.declared.heads.Head.{Head}
use Rattle.mesh_model.specs.declared.geometries.Geometry.TheVariants.{Mesh}
use Rattle.mesh_model.specs.Parts.{MeshParts}
use Rattle.mesh_model.specs.Renumbering.{renumbered}
use Rattle.mesh_model.specs.Groups.{AttrTable}
use Rattle.corner_table.specs.Sides.{Gluing}
use Rattle.pairing.specs.Pairing.{pairing}
use Rattle.pairing.specs.CarriedPairs.{carried}
use Rattle.eb_trace.specs.declared.tracing.Traced.{Traced}
use Rattle.eb_trace.specs.Trace.{trace, word_of, order_of, fan_count}
use Rattle.eb_section.specs.Written.{connectivity_bytes}
use Rattle.seams.specs.Seams.{unseamed}
use Rattle.seams.specs.SeamBits.{seam_bits}
use Rattle.seams.specs.Values.{piece, is_seam}
use Rattle.corner_table.specs.Ordered.{Ordered}
use Rattle.attr_section.specs.declared.decoder_heads.DecoderHead.{DecoderHead}
use Rattle.attr_section.specs.declared.values.Values.{Values}
use Rattle.attr_section.specs.Heads.{position_id, heads_bytes}
use Rattle.attr_section.specs.Positions.{PositionsRead}
use Rattle.attr_section.specs.Written.{decoder_values_bytes}
use Rattle.drc_container.specs.declared.choice.codings.Coding.{Coding}
use Rattle.drc_container.specs.choice.Predicts.{asked}
use Rattle.drc_container.specs.reading.OnSurface.{ordered_by, positions_from}
use Rattle.drc_container.specs.writing.Written.{header_bytes}

-- the trace of a mesh's pairs: symbols, events and start bits in the order of the walk, the faces in the order of decoding
unfoldable pub traced : MeshParts → Traced
traced m =
    let t = trace (length m.faces) (pairing m) in
    record {
      symbols = reverse (word_of t);
      events = reverse t.events;
      starts = reverse t.bits;
      order = order_of t;
      vertices = fan_count (length m.faces) (pairing m);
    }

-- a mesh, and how its sides are glued
pub record GluedMesh : Type 0 where
  pub mesh : MeshParts
  pub pairs : Gluing

-- the mesh as it is decoded: its faces in the order of decoding, each turned, and its pairs under their new numbers
unfoldable pub decoded : MeshParts → GluedMesh
decoded m = record { mesh = renumbered m (traced m).order; pairs = carried (pairing m) (traced m).order }

-- the seam bits of attribute k
abbrev pub seam_bits_of : GluedMesh → ℕ → List Bool
seam_bits_of d k = seam_bits (length d.mesh.faces) d.pairs (is_seam d.mesh k d.pairs)

-- whether the values of attribute k belong to corners: it isn't the first, and some pair is a seam of it
unfoldable pub is_cornered : GluedMesh → ℕ → Bool
is_cornered d k = nat_lt 0 k && list_any (λ bit. bit) (seam_bits_of d k)

-- the surface that the values of attribute k stand on: cut at its seams, where they belong to corners
abbrev pub cut_of : GluedMesh → ℕ → Gluing
cut_of d k = if is_cornered d k then unseamed (is_seam d.mesh k d.pairs) d.pairs else d.pairs

-- whether the entries of attribute k are ordered by prediction degree: where it is chosen, and they belong to vertices
abbrev pub is_by_degree : Coding → GluedMesh → ℕ → Bool
is_by_degree coding d k = coding.degree && not (is_cornered d k)

-- this surface in its order
unfoldable pub surface_order : Coding → GluedMesh → ℕ → Ordered
surface_order coding d k = ordered_by (is_by_degree coding d k) (length d.mesh.faces) (cut_of d k)

-- the number of the prediction that is asked of attribute k
abbrev pub asked_at : Coding → GluedMesh → ℕ → ℤ
asked_at coding d k = get_or (map (asked coding.predict) d.mesh.heads) k (pos 0)

-- the values of attribute k: of each entry, in the order of the walk
abbrev pub coded_by : Coding → GluedMesh → ℕ → Values
coded_by coding d k = record { values = flat_map (piece d.mesh k) (surface_order coding d k).corners; predict = asked_at coding d k; at = 0 }

-- the values of each attribute
unfoldable pub coded_values : Coding → GluedMesh → List Values
coded_values coding d = map (coded_by coding d) (range_with_len 0 (length d.mesh.heads))

-- the values of attribute k, with the entry of each corner
abbrev pub table_by : Coding → GluedMesh → ℕ → AttrTable
table_by coding d k = record { values = (coded_by coding d k).values; of_corner = (surface_order coding d k).entries }

-- what stands of the positions in front of attribute k: the first attribute of usage 0 among those before it
unfoldable pub positions_before : Coding → GluedMesh → ℕ → PositionsRead
positions_before coding d k = positions_from PositionsRead.NotYet (take k d.mesh.heads) (map (table_by coding d) (range_with_len 0 k))

-- the data id of attribute k: the first one has the surface itself, each other one an attribute data of its own
abbrev pub data_id_of : ℕ → ℕ
data_id_of k = if k == 0 then position_id else k - 1

-- the decoder of attribute k, which has this head
abbrev pub decoder_for : Coding → GluedMesh → ℕ → Head → DecoderHead
decoder_for coding d k h = record
    { data_id = Some (data_id_of k); corner = is_cornered d k; degree = is_by_degree coding d k; heads = h ∷ [] }

-- the decoders
unfoldable pub decoders_for : Coding → GluedMesh → List DecoderHead
decoders_for coding d = map (λ (k, h). decoder_for coding d k h) (enumerate_from 0 d.mesh.heads)

-- the seam bits of each attribute but the first
abbrev pub seam_lists : GluedMesh → List (List Bool)
seam_lists d = map (seam_bits_of d) (range_with_len 1 (length d.mesh.heads - 1))

-- the values of attribute k, which has this head
abbrev pub attribute_bytes : Coding → GluedMesh → ℕ → Head → List ℕ
attribute_bytes coding d k h =
    decoder_values_bytes coding.plain (Some (surface_order coding d k)) (positions_before coding d k) (h ∷ []) (coded_by coding d k ∷ [])

-- the values of each attribute in turn
abbrev pub values_bytes_on : Coding → GluedMesh → List ℕ
values_bytes_on coding d = flat_map (λ (k, h). attribute_bytes coding d k h) (enumerate_from 0 d.mesh.heads)

-- the heads of the decoders
abbrev pub decoder_heads_bytes : Coding → GluedMesh → List ℕ
decoder_heads_bytes coding d = heads_bytes true (decoders_for coding d)

-- the connectivity of a mesh, by valence or by standard symbols
abbrev pub connectivity_of : Bool → MeshParts → List ℕ
connectivity_of valence m = connectivity_bytes valence (length m.faces) (traced m) (seam_lists (decoded m))

-- the header and the connectivity
abbrev pub prelude_bytes : Bool → MeshParts → List ℕ
prelude_bytes valence m = header_bytes 1 (Mesh m) ++ connectivity_of valence m

-- the stream
unfoldable pub edgebreaker_bytes : Coding → MeshParts → List ℕ
edgebreaker_bytes coding m =
    header_bytes 1 (Mesh m)
    ++ (connectivity_of coding.valence m ++ (decoder_heads_bytes coding (decoded m) ++ values_bytes_on coding (decoded m)))
