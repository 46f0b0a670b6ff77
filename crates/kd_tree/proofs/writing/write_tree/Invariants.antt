-- What is written, and what the boxes that are due will write.
use Rattle.std.proofs.Common.{◌≡◌, ◌++◌, reverse}
use Rattle.kd_tree.specs.Trees.{rest_bits, split_bits}
use Rattle.kd_tree.specs.Walk.{AreDue, nodes_due, rests_due, splits_due}
use Rattle.kd_tree.proofs.writing.write_tree.Given as goal

abbrev pub invariant-loop-due : goal.invariant-loop-due
invariant-loop-due l = record {
  due : AreDue l.keys.depth l.keys.rows l.begin (reverse l.stack.items);
  split : l.bits.split.items ++ splits_due l.keys.depth l.keys.rows l.begin (reverse l.stack.items) ≡ split_bits l.keys.depth 0 l.keys.rows;
  rest : l.bits.rest.items ++ rests_due l.keys.depth l.keys.rows l.begin (reverse l.stack.items) ≡ rest_bits l.keys.depth 0 l.keys.rows;
}

abbrev pub decreases-loop-due : goal.decreases-loop-due
decreases-loop-due l = nodes_due l.keys.depth (reverse l.stack.items)
