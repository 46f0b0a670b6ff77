use Rattle.drc_container.proofs.lemmas.reading.Limited.{connectivity_alike}
use Rattle.drc_container.proofs.reading.edgebreaker.read_surface.Goals as goal

pub returns-clause-section : goal.returns-clause-section
returns-clause-section g c = rw (connectivity_alike c.args._profile.number c.args.c.now) c.read_connectivity.ensures.section
