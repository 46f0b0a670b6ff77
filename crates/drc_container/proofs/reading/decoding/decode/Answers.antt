use Rattle.std.proofs.Common.{Result, refl, sym, ap, ◌∙◌, subst}
use Rattle.std.specs.Prelude.{IfOk}
use Rattle.std.proofs.lemmas.Result.{err_from_is_err_and}
use Rattle.drc_base.specs.declared.faults.Refusal.{Refusal}
use Rattle.mesh_model.specs.declared.geometries.Geometry.{Geometry}
use Rattle.drc_container.specs.declared.headers.Form.TheVariants as form
use Rattle.drc_container.specs.reading.Meaning.{geometry_read}
use Rattle.drc_container.proofs.lemmas.reading.Declared.{declared-header, declared-behind, place-fault}
use Rattle.drc_container.proofs.lemmas.reading.ProfileHeads.{IsHad, geometry-had, mesh-had}
use Rattle.drc_container.proofs.reading.decoding.decode.Goals as goal

pub returns-in_err-form-clause-early : goal.returns-in_err-form-clause-early
returns-in_err-form-clause-early c f front =
    let p = err_from_is_err_and c.from_residual.result c.from_residual.ensures.1 in
    rw (p.1, p.2, declared-header c.args.bytes.now c.new-c.result c.in_err-form.field-0.0 f c.new-c.ensures c.in_err-form.ensures front) refl

pub returns-in-SequentialMesh-clause-early : goal.returns-in-SequentialMesh-clause-early
returns-in-SequentialMesh-clause-early c f front =
    c.geometry_alone.ensures
    ∙ ap geometry_read (c.read_mesh.ensures.early f (place-fault _ f (declared-behind c.args.bytes.now c.new-c.result _ _ _ f c.new-c.ensures c.in_ok-form.ensures c.in-SequentialMesh.is front)))

pub returns-in-Cloud-clause-early : goal.returns-in-Cloud-clause-early
returns-in-Cloud-clause-early c f front =
    c.geometry_alone-in-Cloud.ensures
    ∙ ap geometry_read (c.read_cloud.ensures.early f (place-fault _ f (declared-behind c.args.bytes.now c.new-c.result _ _ _ f c.new-c.ensures c.in_ok-form.ensures c.in-Cloud.is front)))

pub returns-in-EdgebreakerMesh-clause-early : goal.returns-in-EdgebreakerMesh-clause-early
returns-in-EdgebreakerMesh-clause-early c f front =
    c.read_edgebreaker_mesh.ensures.early f (place-fault _ f (declared-behind c.args.bytes.now c.new-c.result _ _ _ f c.new-c.ensures c.in_ok-form.ensures c.in-EdgebreakerMesh.is front))

pub returns-in-SequentialMesh-clause-heads : goal.returns-in-SequentialMesh-clause-heads
returns-in-SequentialMesh-clause-heads c =
    subst (λ (r : Result Geometry Refusal). IfOk r (IsHad c.args.profile.number)) (sym c.geometry_alone.ensures)
    (geometry-had c.args.profile.number form.SequentialMesh _ c.read_mesh.result c.read_mesh.ensures.mesh)

pub returns-in-Cloud-clause-heads : goal.returns-in-Cloud-clause-heads
returns-in-Cloud-clause-heads c =
    subst (λ (r : Result Geometry Refusal). IfOk r (IsHad c.args.profile.number)) (sym c.geometry_alone-in-Cloud.ensures)
    (geometry-had c.args.profile.number form.Cloud _ c.read_cloud.result c.read_cloud.ensures.cloud)

pub returns-in-EdgebreakerMesh-clause-heads : goal.returns-in-EdgebreakerMesh-clause-heads
returns-in-EdgebreakerMesh-clause-heads c = mesh-had c.args.profile.number _ c.read_edgebreaker_mesh.result c.read_edgebreaker_mesh.ensures.mesh
