-- The bits so far, and those that are left.
use Rattle.std.proofs.Common.{◌≡◌, ◌++◌, drop}
use Rattle.kd_tree.specs.Keys.{key_at}
use Rattle.kd_tree.proofs.keys.Keys.append_rest.Given as goal

abbrev pub invariant-loop-d : goal.invariant-loop-d
invariant-loop-d l = l.out.items ++ drop l.d (key_at l.self.rows l.point) ≡ l.fn.out.items ++ drop l.depth (key_at l.self.rows l.point)
