use Rattle.drc_container.proofs.lemmas.surface.TurnedMeshes.{turned-sound}
use Rattle.drc_container.proofs.surface.turned_meshes.TurnedMesh.heads.Goals as goal

pub returns-clause-sound : goal.returns-clause-sound
returns-clause-sound c = rw (← c.self.view_is) (turned-sound c.self.inside.mesh.now c.self.inside.rows.now c.self.invariant.0 c.self.invariant.1)
