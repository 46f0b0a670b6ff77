-- Each corner that carries the label was reached, and the walk goes on from the last one. Two looks are left for each corner without a label, and one more.
use Rattle.std.proofs.Common.{◌≡◌, ℕ, ◌+◌, ◌*◌, ◌<◌, ◌≤◌, true, List, vec_len}
use Rattle.corner_table.specs.Sides.{side_at}
use Rattle.corner_table.specs.Table.{gluing_of}
use Rattle.corner_table.specs.Labelling.{unlabelled, IsReady, IsLeftDone, IsRightwards}
use Rattle.corner_table.proofs.labels.label_right.Given as goal

abbrev pub invariant-rightwards : goal.invariant-rightwards
invariant-rightwards l = record {
  len : vec_len l.labels ≡ vec_len l.fn.labels;
  within : l.at < 3 * l.table.faces;
  walk : (before : List ℕ) → IsReady (gluing_of l.table) l.label before (side_at l.start) → IsLeftDone (gluing_of l.table) l.label before l.fn.labels.items (side_at l.start) true → IsRightwards (gluing_of l.table) l.label before l.labels.items (side_at l.start) (side_at l.at);
  looks : 2 * unlabelled l.labels.items + 1 ≤ l.looks.left;
}

abbrev pub decreases-rightwards : goal.decreases-rightwards
decreases-rightwards l = unlabelled l.labels.items
