use Rattle.std.proofs.Common.{◌≡◌}
use Rattle.tests_entropy.proofs.rans_core_tests.pulls.Given as goal

abbrev pub invariant-loop-k : goal.invariant-loop-k
invariant-loop-k l = l.decoder.bits ≡ l.bits
