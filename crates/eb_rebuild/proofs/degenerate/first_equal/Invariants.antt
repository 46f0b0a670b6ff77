-- No face before this one has two equal labels.
use Rattle.std.proofs.Common.{◌≡◌, None}
use Rattle.eb_rebuild.specs.Alike.{first_alike}
use Rattle.eb_rebuild.proofs.degenerate.first_equal.Given as goal

abbrev pub invariant-loop-face : goal.invariant-loop-face
invariant-loop-face l = first_alike l.labels l.face ≡ None
