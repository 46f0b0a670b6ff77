use Rattle.drc_container.proofs.lemmas.choice.Encodable.{encodable-encoded}
use Rattle.drc_container.proofs.laws.encodable_meshes_are_encoded.Goals as goal

pub returns : goal.returns
returns c = encodable-encoded
