-- The entries of the sides of the rows so far, and a look for each of the others.
use Rattle.std.proofs.Common.{◌≡◌, ◌+◌, ◌*◌, ◌<◌, ◌≤◌, length, get_or}
use Rattle.corner_table.specs.Sides.{Side, number}
use Rattle.corner_table.specs.Table.{free_entry}
use Rattle.corner_table.specs.Carried.{carry}
use Rattle.corner_table.specs.Renumbering.{becomes}
use Rattle.corner_table.proofs.renumbering.carried.Given as goal

abbrev pub invariant-loop-face : goal.invariant-loop-face
invariant-loop-face l = record {
  looks : 3 * (length l.rows) ≤ l.looks.left + 3 * l.face-index;
  long : length l.now.items ≡ 3 * l.face-index;
  entry : (x : Side) → x.face < l.face-index → get_or l.now.items (number x) free_entry ≡ becomes l.places.items l.entries.items (carry l.rows x);
}
