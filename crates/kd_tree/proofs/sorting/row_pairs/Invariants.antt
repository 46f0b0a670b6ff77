-- The pairs so far.
use Rattle.std.proofs.Common.{◌≡◌, map}
use Rattle.std.specs.Prelude.{All}
use Rattle.std.specs.List.{range_with_len}
use Rattle.kd_tree.specs.Packing.{packed_row}
use Rattle.kd_tree.proofs.sorting.row_pairs.Given as goal

abbrev pub invariant-loop-k : goal.invariant-loop-k
invariant-loop-k l = record {
  numbers : map (λ p. p.1) l.pairs.items ≡ range_with_len 0 l.k;
  rows : All (λ p. p.0.now ≡ packed_row l.width l.words p.1) l.pairs.items;
}
