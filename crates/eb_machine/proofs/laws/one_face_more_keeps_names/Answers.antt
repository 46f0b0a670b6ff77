use Rattle.eb_machine.proofs.Naming.{names_grow}
use Rattle.eb_machine.proofs.laws.one_face_more_keeps_names.Goals as goal

pub returns : goal.returns
returns c = names_grow
