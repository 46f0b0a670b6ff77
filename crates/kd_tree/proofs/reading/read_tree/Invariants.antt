-- What the keys so far, the current box and those that wait give is what is due.
use Rattle.std.proofs.Common.{◌≡◌, reverse}
use Rattle.kd_tree.specs.Reading.{tree_of}
use Rattle.kd_tree.specs.Turns.{IsDueNext, turns_left}
use Rattle.kd_tree.proofs.reading.read_tree.Given as goal

abbrev pub invariant-loop-next : goal.invariant-loop-next
invariant-loop-next l = record {
  due : IsDueNext l.fault l.depth (tree_of l.fault l.depth l.count (record { split = l.fn.split; rest = l.fn.rest }))
      l.path.items (reverse l.stack.items) l.out.rows (record { split = l.split; rest = l.rest }) l.next;
  depth : l.out.depth ≡ l.depth;
}

abbrev pub decreases-loop-next : goal.decreases-loop-next
decreases-loop-next l = turns_left l.depth l.path.items (reverse l.stack.items) l.next
