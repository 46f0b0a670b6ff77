use Rattle.drc_verify.proofs.StreamFaces.{surface-has-faces}
use Rattle.drc_verify.proofs.laws.a_surface_has_the_faces.Goals as goal

pub returns : goal.returns
returns c = surface-has-faces
