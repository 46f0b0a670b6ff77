use Rattle.drc_bits.proofs.Groups.{ReadSoFar}
use Rattle.drc_bits.proofs.varints.var32_front.Given as goal

abbrev pub invariant-loop-i : goal.invariant-loop-i
invariant-loop-i l = ReadSoFar 5 l.bytes l.i l.value l.weight
