-- The places of the sides of the rows so far.
use Rattle.std.proofs.Common.{◌≡◌, ◌*◌, ◌<◌, length, get_or}
use Rattle.corner_table.specs.Sides.{Side, number}
use Rattle.corner_table.specs.Table.{free_entry}
use Rattle.corner_table.specs.Carried.{carry}
use Rattle.corner_table.proofs.renumbering.places_of.Given as goal

abbrev pub invariant-loop-face : goal.invariant-loop-face
invariant-loop-face l = record {
  start : l.start ≡ 3 * l.face-index;
  long : length l.places.items ≡ 3 * length l.rows;
  becomes : (x : Side) → x.face < l.face-index → get_or l.places.items (number (carry l.rows x)) free_entry ≡ number x;
}
