-- The bits so far, and those that are left.
use Rattle.std.proofs.Common.{◌≡◌, ◌-◌, ◌++◌}
use Rattle.kd_tree.specs.Trees.{high_bits}
use Rattle.kd_tree.proofs.writing.append_number.Given as goal

abbrev pub invariant-loop-k : goal.invariant-loop-k
invariant-loop-k l = l.out.items ++ high_bits (l.bits - l.k) l.number ≡ l.fn.out.items ++ high_bits l.bits l.number
