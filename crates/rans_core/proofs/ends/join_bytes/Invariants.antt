use Rattle.std.proofs.Common.{◌≡◌, ◌+◌, ◌-◌, ◌*◌, ◌^◌, ◌<◌}
use Rattle.rans_core.specs.Coder.{joined_number, unread}
use Rattle.rans_core.proofs.ends.join_bytes.Given as goal

abbrev pub invariant-loop-k : goal.invariant-loop-k
invariant-loop-k l = (joined_number (l.more - l.k) l.number (unread l.bytes (l.left - l.k)) ≡ joined_number l.more l.high (unread l.bytes l.left))
    × (l.number < 2 ^ (6 + 8 * l.k))
