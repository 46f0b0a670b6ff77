use Rattle.drc_verify.proofs.SidesDecided.{sides-told}
use Rattle.drc_verify.proofs.Yes.{yes-same, verdicts-told}
use Rattle.drc_verify.proofs.laws.a_yes_is_the_same.Goals as goal

pub returns : goal.returns
returns c = record { yes = yes-same; told = verdicts-told; sides = sides-told }
