use Rattle.drc_gen.proofs.Meshes.{length-points, length-faces, generated-mesh}
use Rattle.drc_gen.proofs.laws.generated_is_a_mesh.Goals as goal

pub returns : goal.returns
returns c = record { mesh = generated-mesh; points = length-points; faces = length-faces }
