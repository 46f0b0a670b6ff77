use Rattle.texture_prediction.proofs.Turning.{orientations-come-back, bits-come-back}
use Rattle.texture_prediction.proofs.laws.orientations_come_back.Goals as goal

pub returns-clause-orientations : goal.returns-clause-orientations
returns-clause-orientations c = orientations-come-back

pub returns-clause-bits : goal.returns-clause-bits
returns-clause-bits c = bits-come-back
