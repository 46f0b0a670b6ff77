use Rattle.drc_bits.proofs.Groups.{ReadSoFar}
use Rattle.drc_bits.proofs.varints.var64_front.Given as goal

abbrev pub invariant-loop-i : goal.invariant-loop-i
invariant-loop-i l = ReadSoFar 10 l.bytes l.i l.value l.weight
