-- The fans of the corners so far are labelled, and two looks are left for each corner without a label.
use Rattle.std.proofs.Common.{◌≡◌, ◌*◌, ◌≤◌, vec_len}
use Rattle.corner_table.specs.Table.{gluing_of}
use Rattle.corner_table.specs.Labelling.{unlabelled, IsLabelling}
use Rattle.corner_table.proofs.side_table.SideTable.label_vertices.Given as goal

abbrev pub invariant-loop-corner : goal.invariant-loop-corner
invariant-loop-corner g l = record {
  len : vec_len l.labels ≡ 3 * l.self.faces;
  looks : 2 * unlabelled l.labels.items ≤ l.looks.left;
  few : l.count ≤ l.corner;
  labelling : IsLabelling l.self.faces (gluing_of l.self) l.corner l.count l.labels.items l.ends.items;
}
