-- What is written of a geometry by a choice: its stream, and where its faces or points are found again (this project's choice).
use Rattle.std.specs.Prelude.{ℕ, List, [], if◌then◌else◌}
use Rattle.mesh_model.specs.declared.geometries.Geometry.{Geometry}
use Rattle.mesh_model.specs.declared.geometries.Geometry.TheVariants.{Mesh, Cloud}
use Rattle.mesh_model.specs.Parts.{MeshParts}
use Rattle.mesh_model.specs.Same.{Rows}
use Rattle.mesh_model.specs.Renumbering.{plain}
use Rattle.mesh_model.specs.SameLaws.{count_of}
use Rattle.attr_section.specs.declared.values.Values.{Values}
use Rattle.drc_container.specs.declared.choice.codings.Coding.{Coding}
use Rattle.drc_container.specs.declared.choice.choices.Choice.{Choice}
use Rattle.drc_container.specs.choice.Choice.{method_of, is_sequential, is_valence, is_degree, predict_chosen}
use Rattle.drc_container.specs.writing.Written.{values_of, stream_bytes}
use Rattle.drc_container.specs.writing.WrittenOnSurface.{traced, decoded, coded_values, edgebreaker_bytes}

-- a mesh; a cloud as a mesh without faces, which no method but the sequential one takes
abbrev pub mesh_in : Geometry → MeshParts
mesh_in (Mesh m) = m
mesh_in (Cloud c) = record { heads = c.heads; points = c.points; faces = [] }

-- how a geometry is coded by Edgebreaker
abbrev pub coding_of : Geometry → Choice → Coding
coding_of g choice = record {
  valence = is_valence (method_of g choice);
  degree = is_degree choice.walk;
  predict = predict_chosen g choice;
  plain = choice.plain_values;
}

-- the values that are coded of each attribute: those of the points in order, or those of the entries of its order
unfoldable pub values_chosen : Geometry → Choice → List Values
values_chosen g choice =
    if is_sequential (method_of g choice) then values_of g (predict_chosen g choice)
    else coded_values (coding_of g choice) (decoded (mesh_in g))

-- what is written: the stream, and the rows by which its geometry is the one that was encoded: by the sequential method each face or point
-- is itself, and by Edgebreaker the faces are in the order of decoding
abbrev pub written : Geometry → Choice → List ℕ × Rows
written g choice =
    if is_sequential (method_of g choice) then (stream_bytes g choice, plain (count_of g))
    else (edgebreaker_bytes (coding_of g choice) (mesh_in g), (traced (mesh_in g)).order)
