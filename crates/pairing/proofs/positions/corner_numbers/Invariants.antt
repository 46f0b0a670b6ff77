-- The corners of the faces so far have the numbers of their points.
use Rattle.std.proofs.Common.{◌≡◌, ◌*◌, ◌<◌, length, vec_capacity}
use Rattle.corner_table.specs.Sides.{Side}
use Rattle.pairing.specs.Positions.{position_in}
use Rattle.pairing.proofs.PositionLists.{point_number}
use Rattle.pairing.proofs.positions.corner_numbers.Given as goal

abbrev pub invariant-loop-f : goal.invariant-loop-f
invariant-loop-f l = record {
  long : length l.numbers.items ≡ 3 * l.f;
  room : vec_capacity l.numbers ≡ 3 * length l.m.faces;
  was : (x : Side) → x.face < l.f → position_in l.numbers.items x ≡ point_number l.m.faces l.of_point.items x;
}
