-- The end of the lower box lies from `low` up to `high`.
use Rattle.std.proofs.Common.{◌+◌, ◌-◌, ◌≤◌, length}
use Rattle.kd_tree.specs.Trees.{lower}
use Rattle.kd_tree.specs.Walk.{part}
use Rattle.kd_tree.proofs.writing.lower_end.Given as goal

abbrev pub invariant-loop-low : goal.invariant-loop-low
invariant-loop-low l = record {
  begin : l.begin ≤ l.low;
  end : l.high ≤ l.end;
  above : l.low ≤ l.begin + length (lower l.depth (part l.begin l.end l.keys.rows));
  below : l.begin + length (lower l.depth (part l.begin l.end l.keys.rows)) ≤ l.high;
}

abbrev pub decreases-loop-low : goal.decreases-loop-low
decreases-loop-low l = l.high - l.low
