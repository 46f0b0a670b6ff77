use Rattle.std.proofs.Common.{◌+◌, ◌^◌, ◌<◌}
use Rattle.ply_text.specs.InPlace.{AreDigits}
use Rattle.ply_text.proofs.ahead.digits_ahead.Given as goal

-- digits alone so far
abbrev pub invariant-loop-k : goal.invariant-loop-k
invariant-loop-k l = AreDigits l.text l.start (l.start + l.k) l.value × (l.value < 10 ^ l.k)
