-- None of the triangles so far has two equal names.
use Rattle.std.proofs.Common.{◌≡◌, None}
use Rattle.eb_machine.specs.Named.{first_with_equal}
use Rattle.eb_rows.proofs.active_rows.first_with_equal.Given as goal

abbrev pub invariant-loop-face : goal.invariant-loop-face
invariant-loop-face l = first_with_equal l.triangles l.face ≡ None
