-- What an encoding answers, and what its bytes mean (this project's choice).
use Rattle.drc_base.specs.Profile.{profile, profile_numbered}
use Rattle.std.specs.Prelude.{◌≡◌, ◌<◌, ◌≤◌, ℕ, ◌+◌, ◌-◌, Bool, true, false, List, [], ◌∷◌, ◌++◌, map, length}
use Rattle.std.specs.Prelude.{Option, None, Some, Result, Ok, All}
use Rattle.std.specs.List.{enumerate_from}
use Rattle.drc_base.specs.declared.faults.Fault.{Fault}
use Rattle.drc_base.specs.declared.limits.TheConstants.{MAX_POINTS, MAX_VALUES}
use Rattle.drc_bits.specs.Spells.{Spells}
use Rattle.mesh_model.specs.declared.geometries.Geometry.{Geometry}
use Rattle.mesh_model.specs.declared.geometries.Geometry.TheVariants.{Mesh, Cloud}
use Rattle.attr_heads.specs.FirstFault.{value_unless}
use Rattle.mesh_model.specs.Same.{Rows, Same}
use Rattle.attr_heads.specs.declared.heads.Head.{Head}
use Rattle.mesh_model.specs.Parts.{MeshParts}
use Rattle.mesh_model.specs.Contents.{heads_in, points_in}
use Rattle.corner_table.specs.Carried.{IsCarried}
use Rattle.pairing.specs.Pairing.{pairing}
use Rattle.pairing.specs.Degenerate.{degenerate_fault}
use Rattle.eb_trace.specs.Trace.{fan_count}
use Rattle.eb_section.specs.ReadAgain.{IsReadAgain}
use Rattle.corner_table.specs.Ordered.{Ordered}
use Rattle.seq_section.specs.Indices.{indices_at}
use Rattle.attr_section.specs.declared.decoder_heads.DecoderHead.{DecoderHead}
use Rattle.attr_section.specs.declared.values.Values.{Values}
use Rattle.attr_section.specs.Heads.{bare_decoder, heads_at}
use Rattle.attr_section.specs.Positions.{PositionsRead}
use Rattle.attr_section.specs.Attributes.{values_in, decoder_values_at}
use Rattle.attr_section.specs.Written.{values_placed, decoder_values_bytes}
use Rattle.drc_container.specs.declared.choice.codings.Coding.{Coding}
use Rattle.drc_container.specs.declared.choice.choices.Choice.{Choice}
use Rattle.drc_container.specs.declared.choice.predicts.Predict.{Predict}
use Rattle.predict.specs.Schemes.{facts}
use Rattle.drc_container.specs.declared.choice.methods.Method.TheVariants as method
use Rattle.drc_container.specs.declared.reading.attributes.Attributes.{Attributes}
use Rattle.drc_container.specs.reading.Meaning.{Surface, Meaning}
use Rattle.drc_container.specs.Header.{cloud_points_at}
use Rattle.drc_container.specs.choice.Predicts.{plain_of, needed_number}
use Rattle.drc_container.specs.choice.Choice.{method_of, is_sequential, predict_chosen, written_number}
use Rattle.drc_container.specs.reading.Stream.{stream_in, meaning_in, sequential_attributes_at}
use Rattle.drc_container.specs.choice.Refused.{refused, coding_fault}
use Rattle.drc_container.specs.choice.CanCode.{CanCode}
use Rattle.drc_container.specs.writing.Written.{sequential_connectivity_bytes, decoder_of, attribute_heads_bytes, sequential_attributes_bytes, values_of}
use Rattle.drc_container.specs.writing.WrittenOnSurface.{traced, GluedMesh, decoded, surface_order, coded_by, coded_values, positions_before}
use Rattle.drc_container.specs.writing.WrittenOnSurface.{decoder_for, decoders_for}
use Rattle.drc_container.specs.writing.WrittenOnSurface.{seam_lists, decoder_heads_bytes, connectivity_of, edgebreaker_bytes}
use Rattle.drc_container.specs.writing.Chosen.{mesh_in, written}

-- what is due: the bytes and rows, or why the geometry isn't encoded as chosen
abbrev pub encoding_due : Geometry → Choice → Result (List ℕ × Rows) Fault
encoding_due g choice = value_unless (refused g choice) (written g choice)

-- what is due of a mesh that is coded so by Edgebreaker: the bytes, and its faces in the order of decoding, or why it isn't coded so
abbrev pub due_on_surface : Coding → MeshParts → Result (List ℕ × Rows) Fault
due_on_surface coding m = value_unless (coding_fault coding m) (edgebreaker_bytes coding m, (traced m).order)

-- the surface is that of the mesh's pairs, under the new numbers that the rows give to the faces
pub record KeepsSurface (m : MeshParts) (rows : Rows) (s : Option Surface) : Type 0 where
  pub surface : Surface
  pub is : s ≡ Some surface
  pub faces : surface.faces ≡ length m.faces
  pub pairs : IsCarried (length m.faces) (pairing m) rows surface.glued

-- what is kept beside the geometry: by the sequential method the list of points, and by Edgebreaker the surface
abbrev pub KeepsBeside : Bool → Geometry → Meaning → Rows → Type 0
KeepsBeside true g d rows = (points_in d.geometry ≡ points_in g) × (d.surface ≡ None)
KeepsBeside false g d rows = KeepsSurface (mesh_in g) rows d.surface

-- these bytes are a stream in the first profile that has all that is written, and it ends with them; its geometry is this one by these
-- rows, the points or the surface are kept, and the bytes mean this geometry whatever follows them
pub record Means (g : Geometry) (choice : Choice) (bytes : List ℕ) (rows : Rows) : Type 0 where
  pub decoded : Meaning
  pub stream_is : stream_in (profile_numbered (written_number g choice)) bytes ≡ Ok decoded
  pub same : Same g decoded.geometry rows
  pub beside : KeepsBeside (is_sequential (method_of g choice)) g decoded rows
  pub whole : decoded.info.end ≡ length bytes
  pub followed : (more : List ℕ) → meaning_in (profile_numbered (written_number g choice)) (bytes ++ more) ≡ Ok decoded.geometry

-- this geometry can be coded by this choice, sequentially: there is a point, the prediction needs no surface, and the values can be coded
pub record CanCodeInOrder (g : Geometry) (choice : Choice) : Type 0 where
  pub sequential : method_of g choice ≡ method.Seq
  pub some : 0 < length (points_in g)
  pub alone : (facts (plain_of (predict_chosen g choice))).needs_surface ≡ false
  pub values : CanCode (heads_in g) (values_of g (predict_chosen g choice))

-- the connectivity is read back: the faces of a mesh and its number of points, or the number of points of a cloud
abbrev pub ConnectivitySpelled : Bool → Geometry → Type 0
ConnectivitySpelled packed (Mesh m) =
    Spells (indices_at profile) (sequential_connectivity_bytes packed (Mesh m)) (record { faces = m.faces; points = length m.points })
ConnectivitySpelled packed (Cloud c) = Spells (cloud_points_at profile) (sequential_connectivity_bytes packed (Cloud c)) (length c.points)

-- the attributes that are read back from a place on: the heads, and the values with the places of their prediction bytes
abbrev pub attributes_again : Bool → Geometry → Predict → ℕ → Attributes
attributes_again plain g p place = record {
  heads = heads_in g;
  values = values_placed plain None PositionsRead.NotYet (place + length (attribute_heads_bytes g)) (heads_in g) (values_of g p);
}

-- the attributes are read back in the first profile that has all that is written of them, and in front of them their heads
pub record AttributesSpelled (plain : Bool) (g : Geometry) (p : Predict) : Type 0 where
  pub heads : Spells (heads_at (profile_numbered (needed_number p (heads_in g))) None) (attribute_heads_bytes g)
      (bare_decoder (decoder_of g) ∷ [])
  pub reads : (place : ℕ) (rest : List ℕ)
      → sequential_attributes_at (profile_numbered (needed_number p (heads_in g))) (length (points_in g))
      (record { place = place; rest = sequential_attributes_bytes plain g p ++ rest })
      ≡ Ok (
        attributes_again plain g p place,
        record { place = place + length (sequential_attributes_bytes plain g p); rest = rest },
      )

-- this mesh can be coded so by Edgebreaker: it has faces, none of which is degenerate; its vertices are few; and its values can be coded
pub record CanCodeSurface (coding : Coding) (m : MeshParts) : Type 0 where
  pub some : 0 < length m.faces
  pub proper : degenerate_fault m ≡ None
  pub few_vertices : fan_count (length m.faces) (pairing m) ≤ MAX_POINTS
  pub values : CanCode m.heads (coded_values coding (decoded m))

-- the values of a decoder over a surface in this order, behind what was found of the positions, are read back in the profile of this
-- number, wherever they stand and whatever follows them
pub record AreReadAgain (n : ℕ) (plain : Bool) (w : Ordered) (found : PositionsRead) (d : DecoderHead) (values : List Values) : Type 0 where
  pub reads : (spent place : ℕ) (rest : List ℕ) → spent + values_in values ≤ MAX_VALUES
      → decoder_values_at (profile_numbered n) (Some w) found (bare_decoder d) (length w.corners) spent
      (record { place = place; rest = decoder_values_bytes plain (Some w) found d.heads values ++ rest })
      ≡ Ok (
        (values_placed plain (Some w) found place d.heads values, d),
        record { place = place + length (decoder_values_bytes plain (Some w) found d.heads values); rest = rest },
      )

-- the values of attribute k, which has this head, are read back in the profile of this number
abbrev pub AttributeSpelled : ℕ → Coding → GluedMesh → ℕ → Head → Type 0
AttributeSpelled n coding d k h =
    AreReadAgain n coding.plain (surface_order coding d k) (positions_before coding d k) (decoder_for coding d k h) (coded_by coding d k ∷ [])

-- the connectivity of a mesh is read back
abbrev pub ConnectivityReadAgain : Bool → MeshParts → Type 0
ConnectivityReadAgain valence m = IsReadAgain valence (length m.faces) (traced m) (seam_lists (decoded m)) (connectivity_of valence m)

-- the parts of a mesh's stream by Edgebreaker are read back in the first profile that has all that is written: the connectivity, the heads
-- of the decoders, and the values of each attribute
pub record SurfaceSpelled (coding : Coding) (m : MeshParts) : Type 0 where
  pub connectivity : ConnectivityReadAgain coding.valence m
  pub heads : Spells (heads_at (profile_numbered (needed_number coding.predict m.heads)) (Some (length m.heads - 1)))
      (decoder_heads_bytes coding (decoded m)) (map bare_decoder (decoders_for coding (decoded m)))
  pub values : All (λ (k, h). AttributeSpelled (needed_number coding.predict m.heads) coding (decoded m) k h) (enumerate_from 0 m.heads)
