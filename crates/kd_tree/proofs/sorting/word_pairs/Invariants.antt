-- The pairs so far.
use Rattle.std.proofs.Common.{◌≡◌, ℕ, map}
use Rattle.std.specs.Prelude.{All}
use Rattle.std.specs.List.{range_with_len}
use Rattle.kd_tree.specs.Packing.{IsWordOf}
use Rattle.kd_tree.proofs.sorting.word_pairs.Given as goal

abbrev pub invariant-loop-k : goal.invariant-loop-k
invariant-loop-k l = record {
  numbers : map (λ (p : ℕ × ℕ). p.1) l.pairs.items ≡ range_with_len 0 l.k;
  words : All (λ (p : ℕ × ℕ). IsWordOf l.keys p.1 p.0) l.pairs.items;
}
