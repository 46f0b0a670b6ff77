-- From the start to here all sides of the class are passed.
use Rattle.std.proofs.Common.{◌≡◌, ℕ, ◌<◌, ◌≤◌, ◌-◌, length, get_or}
use Rattle.pairing.specs.Choosing.{IsPassed}
use Rattle.pairing.proofs.choosing.first_left.Given as goal

abbrev pub invariant-loop-at : goal.invariant-loop-at
invariant-loop-at l =
    let classes = l.sides.classes.items in
    record {
      later : l.from ≤ l.at;
      same : l.from < length classes → l.at < length classes → get_or classes l.at 0 ≡ get_or classes l.from 0;
      passed : (z : ℕ) → l.from ≤ z → z < l.at → z < length classes → get_or classes z 0 ≡ get_or classes l.from 0 → IsPassed l.sides.thirds.items l.taken l.skip z;
    }

abbrev pub decreases-loop-at : goal.decreases-loop-at
decreases-loop-at l = length l.taken - l.at
