use Rattle.std.proofs.Common.{◌≡◌, ◌≤◌, ◌/◌, drop}
use Rattle.ply_text.specs.Numbers.{natural_within}
use Rattle.ply_text.proofs.Digits.{within_after}
use Rattle.ply_text.proofs.integers.natural_within.Given as goal

-- the digits that are left, after those so far, give the number
abbrev pub invariant-loop-i : goal.invariant-loop-i
invariant-loop-i l =
    (within_after l.most l.value (drop l.i l.token) ≡ natural_within l.most l.token)
    × (l.value ≤ l.most)
    × (l.tenth ≡ l.most / 10)
