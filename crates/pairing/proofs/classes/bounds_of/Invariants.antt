-- The sides of the faces so far.
use Rattle.std.proofs.Common.{◌≡◌, ◌*◌, ◌<◌, length, vec_capacity, min, max}
use Rattle.corner_table.specs.Sides.{Side, next, prev}
use Rattle.pairing.specs.Positions.{position_in}
use Rattle.pairing.proofs.classes.bounds_of.Given as goal

abbrev pub invariant-loop-f : goal.invariant-loop-f
invariant-loop-f l = record {
  each_low : length l.lows.items ≡ 3 * l.f;
  each_high : length l.highs.items ≡ 3 * l.f;
  low_room : vec_capacity l.lows ≡ length l.numbers;
  high_room : vec_capacity l.highs ≡ length l.numbers;
  low : (x : Side) → x.face < l.f → position_in l.lows.items x ≡ min (position_in l.numbers (next x)) (position_in l.numbers (prev x));
  high : (x : Side) → x.face < l.f → position_in l.highs.items x ≡ max (position_in l.numbers (next x)) (position_in l.numbers (prev x));
}
