use Rattle.texture_prediction.specs.Orientations.{bits_behind}
use Rattle.texture_prediction.proofs.Turning.{IsTurned}
use Rattle.texture_prediction.proofs.orientations.orientations_to_bits.Given as goal

abbrev pub invariant-loop-i : goal.invariant-loop-i
invariant-loop-i l = IsTurned bits_behind l.fn.flags l.flags l.i l.before
