-- The keys so far.
use Rattle.std.proofs.Common.{◌≡◌, ℕ, map, take}
use Rattle.kd_tree.specs.Keys.{KeyRows}
use Rattle.kd_tree.specs.Trees.{high_bits}
use Rattle.kd_tree.proofs.sorting.word_keys.Given as goal

abbrev pub invariant-loop-pair : goal.invariant-loop-pair
invariant-loop-pair l = ◌≡◌ {A = KeyRows} l.keys (record { depth = l.fn.room.depth; rows = map (λ (p : ℕ × ℕ). high_bits l.fn.room.depth p.0) (take l.pair-index l.pairs) })
