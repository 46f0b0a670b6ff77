use Rattle.std.proofs.Common.{◌≡◌}
use Rattle.tests_entropy.proofs.rans_core_tests.coded.Given as goal

abbrev pub invariant-loop : goal.invariant-loop
invariant-loop l = l.encoder.bits ≡ l.bits
