use Rattle.drc_container.proofs.lemmas.reading.Limited.{indices_alike}
use Rattle.drc_container.proofs.reading.decoding.read_faces.Goals as goal

pub returns-clause-indices : goal.returns-clause-indices
returns-clause-indices c = rw (indices_alike c.args._profile.number c.args.c.now) c.read_indices.ensures.indices
