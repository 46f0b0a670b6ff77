use Rattle.drc_verify.proofs.GluedTold.{glued-yes-same, glued-verdicts-told}
use Rattle.drc_verify.proofs.laws.a_glued_yes_is_the_same.Goals as goal

pub returns : goal.returns
returns c = record { yes = glued-yes-same; told = glued-verdicts-told }
