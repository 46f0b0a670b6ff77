-- The number of the bits so far.
use Rattle.std.proofs.Common.{◌≡◌, take}
use Rattle.kd_tree.specs.Reading.{number_behind}
use Rattle.kd_tree.proofs.keys.number_of.Given as goal

abbrev pub invariant-loop-bit : goal.invariant-loop-bit
invariant-loop-bit l = l.number ≡ number_behind 0 (take l.bit-index l.bits)
