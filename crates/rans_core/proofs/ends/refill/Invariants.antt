use Rattle.std.proofs.Common.{◌≡◌, ◌*◌, ◌<◌, ◌≤◌}
use Rattle.rans_core.specs.Coder.{refilled, unread}
use Rattle.rans_core.proofs.ends.refill.Given as goal

abbrev pub invariant-loop-full : goal.invariant-loop-full
invariant-loop-full l = (refilled l.base l.full (unread l.bytes l.place) ≡ refilled l.base l.number (unread l.bytes l.left))
    × (l.full < 256 * l.base) × (l.place ≤ l.left)

abbrev pub decreases-loop-full : goal.decreases-loop-full
decreases-loop-full l = l.place
