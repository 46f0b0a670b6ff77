-- What a stream that is written by Edgebreaker means, part by part.
use Rattle.std.proofs.Common.{ℕ, ◌+◌, List, [], ◌∷◌, map, length, Some}
use Rattle.std.specs.Prelude.{ℤ, count_by, if◌then◌else◌}
use Rattle.std.specs.List.{enumerate_from}
use Rattle.attr_heads.specs.declared.heads.Head.{Head}
use Rattle.mesh_model.specs.Groups.{AttrTable}
use Rattle.mesh_model.specs.declared.geometries.Geometry.TheVariants as geometry
use Rattle.mesh_model.specs.Parts.{MeshParts}
use Rattle.mesh_model.specs.Assembled.{assembled_parts}
use Rattle.eb_machine.specs.Shown.{is_split}
use Rattle.attr_section.specs.Written.{settled}
use Rattle.drc_container.specs.declared.choice.codings.Coding.{Coding}
use Rattle.drc_container.specs.declared.choice.methods.Method.TheVariants as method
use Rattle.drc_container.specs.declared.reading.info.AttrInfo.{AttrInfo}
use Rattle.drc_container.specs.declared.reading.info.StreamInfo.{StreamInfo}
use Rattle.drc_container.specs.reading.Meaning.{Meaning}
use Rattle.drc_container.specs.writing.WrittenOnSurface.{traced, GluedMesh, decoded, surface_order, coded_by, table_by, positions_before, attribute_bytes, decoder_heads_bytes, connectivity_of, edgebreaker_bytes}

-- where connectivity begins: behind the eleven bytes of the header
abbrev pub surface_place : ℕ
surface_place = 11

-- the number of the prediction that is settled of attribute k, which has this head
abbrev pub settled_on : Coding → GluedMesh → ℕ → Head → ℤ
settled_on coding d k h = settled (Some (surface_order coding d k)) (positions_before coding d k) h (coded_by coding d k)

-- what is known of these attributes, the first of which begins at this place
abbrev pub attrs_written : Coding → GluedMesh → ℕ → List (ℕ × Head) → List AttrInfo
attrs_written coding d place [] = []
attrs_written coding d place (x ∷ more) =
    record { head = x.1; predict = settled_on coding d x.0 x.1; entries = length (surface_order coding d x.0).corners; at = place }
    ∷ attrs_written coding d (place + length (attribute_bytes coding d x.0 x.1)) more

-- the tables of all attributes
abbrev pub tables_written : Coding → MeshParts → List AttrTable
tables_written coding m = map (λ (k, _). table_by coding (decoded m) k) (enumerate_from 0 m.heads)

-- the mesh that is assembled of them
abbrev pub mesh_written : Coding → MeshParts → MeshParts
mesh_written coding m = assembled_parts m.heads (tables_written coding m) (length m.faces)

-- where the attributes' heads begin, and their values
abbrev pub heads_place : Coding → MeshParts → ℕ
heads_place coding m = surface_place + length (connectivity_of coding.valence m)

abbrev pub values_place : Coding → MeshParts → ℕ
values_place coding m = heads_place coding m + length (decoder_heads_bytes coding (decoded m))

-- what is known of the stream with these bytes behind it
abbrev pub info_before : Coding → MeshParts → List ℕ → StreamInfo
info_before coding m more = record {
  method = if coding.valence then method.Valence else method.Eb;
  connectivity = (surface_place, length (connectivity_of coding.valence m));
  symbols = length (traced m).symbols;
  splits = count_by is_split (traced m).symbols;
  events = length (traced m).events;
  attrs = attrs_written coding (decoded m) (values_place coding m) (enumerate_from 0 m.heads);
  end = length (edgebreaker_bytes coding m);
  rest = length more;
}

-- what it means
abbrev pub meaning_before : Coding → MeshParts → List ℕ → Meaning
meaning_before coding m more = record {
  geometry = geometry.Mesh (mesh_written coding m);
  surface = Some (record { faces = length m.faces; glued = (decoded m).pairs });
  info = info_before coding m more;
}

-- what is known of the stream alone, and what it means
abbrev pub info_written : Coding → MeshParts → StreamInfo
info_written coding m = info_before coding m []

abbrev pub meaning_written : Coding → MeshParts → Meaning
meaning_written coding m = meaning_before coding m []
