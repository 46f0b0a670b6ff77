use Rattle.drc_container.proofs.lemmas.reading.Whole.{meshes_pass, clouds_pass}
use Rattle.drc_container.proofs.lemmas.reading.ProfileHeads.{meaning-had}
use Rattle.drc_container.proofs.laws.what_is_read_is_a_geometry.Goals as goal

pub returns : goal.returns
returns c = record { meshes = meshes_pass; clouds = clouds_pass; heads = meaning-had }
