-- a fault of the mesh is that of the stream
use Rattle.std.proofs.Common.{◌≡◌, None, Result, Ok, Err}
use Rattle.std.proofs.lemmas.Result.{err_from_is_err_and}
use Rattle.drc_base.specs.declared.faults.Fault.{Fault}
use Rattle.drc_base.specs.declared.faults.Refusal.{Refusal}
use Rattle.mesh_model.specs.declared.geometries.Geometry.TheVariants.{Mesh}
use Rattle.attr_heads.specs.FirstFault.{answer_of}
use Rattle.mesh_model.specs.Parts.{MeshParts, mesh_of}
use Rattle.drc_container.specs.reading.Meaning.{Meaning, told_by}
use Rattle.drc_container.specs.reading.Stream.{mesh_at, mesh_behind}
use Rattle.drc_container.proofs.lemmas.reading.Declared.{Answers-refused}
use Rattle.drc_container.proofs.reading.decoding.read_mesh.Goals as goal

pub returns-in_err-mesh-clause-mesh : goal.returns-in_err-mesh-clause-mesh
unfolding mesh_at mesh_behind
returns-in_err-mesh-clause-mesh c =
    let p = err_from_is_err_and c.from_residual-in_err-mesh.result c.from_residual-in_err-mesh.ensures.1 in
    let read = c.in_ok-heads.field-0 in
    let told : MeshParts → Result Meaning Fault = λ mesh. Ok (record { geometry = Mesh mesh; surface = None; info = read.info }) in
    let due : ◌≡◌ {A = Result MeshParts Refusal} (Err c.in_err-mesh.field-0.0) (answer_of (mesh_of read.heads read.cells c.in_ok-indices.indices.faces)) =
    rw (← c.into_vec.ensures, ← c.into_vec-2.ensures, ← c.into_vec-faces.ensures) c.in_err-mesh.ensures in
    rw (p.1, p.2, c.in_ok-indices.ensures.indices, ← c.place-from.ensures, c.in_ok-heads.ensures.points) (Answers-refused told_by (mesh_of read.heads read.cells c.in_ok-indices.indices.faces) told c.in_err-mesh.field-0.0 due)
