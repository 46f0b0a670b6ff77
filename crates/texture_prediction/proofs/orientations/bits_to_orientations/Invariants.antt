use Rattle.texture_prediction.specs.Orientations.{orientations_behind}
use Rattle.texture_prediction.proofs.Turning.{IsTurned}
use Rattle.texture_prediction.proofs.orientations.bits_to_orientations.Given as goal

abbrev pub invariant-loop-i : goal.invariant-loop-i
invariant-loop-i l = IsTurned orientations_behind l.fn.flags l.flags l.i l.before
