-- Each corner that carries the label was reached, and the walk goes on from the last one. Two looks are left for each corner without a label, and two more.
use Rattle.std.proofs.Common.{◌≡◌, ◌+◌, ◌*◌, ◌<◌, ◌≤◌, vec_len}
use Rattle.corner_table.specs.Sides.{side_at}
use Rattle.corner_table.specs.Table.{gluing_of}
use Rattle.corner_table.specs.Labelling.{unlabelled, IsReady, IsLeftwards}
use Rattle.corner_table.proofs.labels.label_left.Given as goal

abbrev pub invariant-leftwards : goal.invariant-leftwards
invariant-leftwards l = record {
  len : vec_len l.labels ≡ vec_len l.fn.labels;
  within : l.at < 3 * l.table.faces;
  walk : IsReady (gluing_of l.table) l.label l.fn.labels.items (side_at l.start) → IsLeftwards (gluing_of l.table) l.label l.fn.labels.items l.labels.items (side_at l.start) (side_at l.at);
  looks : 2 * unlabelled l.labels.items + 2 ≤ l.looks.left;
}

abbrev pub decreases-leftwards : goal.decreases-leftwards
decreases-leftwards l = unlabelled l.labels.items
