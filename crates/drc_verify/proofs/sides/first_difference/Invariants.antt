use Rattle.std.proofs.Common.{◌≡◌, ℕ, ◌<◌, true}
use Rattle.corner_table.specs.Sides.{side_at}
use Rattle.corner_table.specs.Table.{glued_in}
use Rattle.drc_verify.specs.SideTests.{same_partner}
use Rattle.drc_verify.proofs.sides.first_difference.Given as goal

-- the sides so far have the same partners
abbrev pub invariant-loop-side : goal.invariant-loop-side
invariant-loop-side l = (s : ℕ) → s < l.side → same_partner (glued_in l.a (side_at s)) (glued_in l.b (side_at s)) ≡ true
