use Rattle.std.proofs.Common.{refl}
use Rattle.std.proofs.lemmas.Result.{err_from_is_err_and}
use Rattle.drc_container.proofs.lemmas.reading.Declared.{declared-header, declared-behind, place-fault}
use Rattle.drc_container.specs.declared.headers.Form.TheVariants as form
use Rattle.drc_container.proofs.lemmas.reading.ProfileHeads.{decoded-had}
use Rattle.drc_container.proofs.reading.decoding.decode_whole.Goals as goal

pub returns-in_err-read_header-clause-early : goal.returns-in_err-read_header-clause-early
returns-in_err-read_header-clause-early c f front =
    let p = err_from_is_err_and c.from_residual.result c.from_residual.ensures.1 in
    rw (p.1, p.2, declared-header c.args.bytes.now c.new-c.result c.in_err-read_header.field-0.0 f c.new-c.ensures c.in_err-read_header.ensures front) refl

pub returns-in-SequentialMesh-clause-early : goal.returns-in-SequentialMesh-clause-early
returns-in-SequentialMesh-clause-early c f front =
    c.read_mesh.ensures.early f (place-fault _ f (declared-behind c.args.bytes.now c.new-c.result _ _ _ f c.new-c.ensures c.in_ok-read_header.ensures c.in-SequentialMesh.is front))

pub returns-in-Cloud-clause-early : goal.returns-in-Cloud-clause-early
returns-in-Cloud-clause-early c f front =
    c.read_cloud.ensures.early f (place-fault _ f (declared-behind c.args.bytes.now c.new-c.result _ _ _ f c.new-c.ensures c.in_ok-read_header.ensures c.in-Cloud.is front))

pub returns-in-EdgebreakerMesh-clause-early : goal.returns-in-EdgebreakerMesh-clause-early
returns-in-EdgebreakerMesh-clause-early c f front =
    c.read_edgebreaker.ensures.early f (place-fault _ f (declared-behind c.args.bytes.now c.new-c.result _ _ _ f c.new-c.ensures c.in_ok-read_header.ensures c.in-EdgebreakerMesh.is front))

pub returns-in-SequentialMesh-clause-heads : goal.returns-in-SequentialMesh-clause-heads
returns-in-SequentialMesh-clause-heads c = decoded-had c.args.profile.number form.SequentialMesh _ c.read_mesh.result c.read_mesh.ensures.mesh

pub returns-in-Cloud-clause-heads : goal.returns-in-Cloud-clause-heads
returns-in-Cloud-clause-heads c = decoded-had c.args.profile.number form.Cloud _ c.read_cloud.result c.read_cloud.ensures.cloud

pub returns-in-EdgebreakerMesh-clause-heads : goal.returns-in-EdgebreakerMesh-clause-heads
returns-in-EdgebreakerMesh-clause-heads c = decoded-had c.args.profile.number form.EdgebreakerMesh _ c.read_edgebreaker.result c.read_edgebreaker.ensures.mesh
