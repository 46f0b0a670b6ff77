use Rattle.drc_container.proofs.lemmas.reading.Widened.{wider-same, old-same, later-same}
use Rattle.drc_container.proofs.laws.old_files_keep_their_meaning.Goals as goal

pub returns : goal.returns
returns c = record { wider = wider-same; old = old-same; later = later-same }
