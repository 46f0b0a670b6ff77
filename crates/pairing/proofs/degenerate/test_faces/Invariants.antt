-- No face so far is degenerate.
use Rattle.std.proofs.Common.{◌≡◌, ℕ, ◌<◌, false}
use Rattle.pairing.specs.Degenerate.{is_degenerate_face}
use Rattle.pairing.proofs.degenerate.test_faces.Given as goal

abbrev pub invariant-loop-f : goal.invariant-loop-f
invariant-loop-f l = (k : ℕ) → k < l.f → is_degenerate_face l.m k ≡ false
