use Rattle.drc_app.proofs.Generated.{generated-encoded}
use Rattle.drc_app.proofs.laws.generated_meshes_are_encoded.Goals as goal

pub returns : goal.returns
returns c = generated-encoded
