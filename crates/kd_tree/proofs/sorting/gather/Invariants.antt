-- The keys so far.
use Rattle.std.proofs.Common.{◌≡◌, map, take}
use Rattle.kd_tree.specs.Keys.{KeyRows, key_at}
use Rattle.kd_tree.proofs.sorting.gather.Given as goal

abbrev pub invariant-loop-number : goal.invariant-loop-number
invariant-loop-number l = ◌≡◌ {A = KeyRows} l.sorted (record { depth = l.keys.depth; rows = map (key_at l.keys.rows) (take l.number-index l.order) })
