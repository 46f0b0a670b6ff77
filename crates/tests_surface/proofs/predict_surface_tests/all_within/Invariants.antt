use Rattle.std.proofs.Common.{◌≤ℤ◌, take}
use Rattle.std.specs.List.{All}
use Rattle.tests_surface.proofs.predict_surface_tests.all_within.Given as goal

abbrev pub invariant-loop-i : goal.invariant-loop-i
invariant-loop-i l = All (λ x. (l.low ≤ℤ x) × (x ≤ℤ l.high)) (take l.i l.v)
