use Rattle.mesh_model.proofs.Pigeonholes.{names-once}
use Rattle.mesh_model.proofs.RenumberedMeshes.{renumbered-mesh, renumbered-same}
use Rattle.mesh_model.proofs.laws.renumbered_is_a_mesh.Goals as goal

pub returns : goal.returns
returns c = record {
  names = names-once;
  mesh = λ m rows is apart. renumbered-mesh m rows is apart;
  same = λ m rows is apart. renumbered-same m rows is apart;
}
