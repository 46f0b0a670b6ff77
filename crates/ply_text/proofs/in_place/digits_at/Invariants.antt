use Rattle.std.proofs.Common.{◌≡◌, ◌≤◌}
use Rattle.ply_text.specs.InPlace.{AreDigits}
use Rattle.ply_text.proofs.in_place.digits_at.Given as goal

-- digits alone so far
abbrev pub invariant-loop-i : goal.invariant-loop-i
invariant-loop-i l = AreDigits l.line l.start l.i l.value × (l.value ≤ l.most) × (l.limit ≡ l.most)
