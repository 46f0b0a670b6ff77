use Rattle.std.proofs.Common.{◌≡◌, refl}
use Rattle.kd_tree.specs.Packing.{packed_row}
use Rattle.kd_tree.proofs.Orders.{all-more, numbers-more}
use Rattle.kd_tree.proofs.sorting.row_pairs.Goals as goal

pub loop-k-preserved : goal.loop-k-preserved
loop-k-preserved c = record {
  numbers = numbers-more (λ p. p.1) c.loop-k.pairs.items c.push.new.self.items _ c.loop-k.k c.in_ok-push.ensures.items c.loop-k.invariant.numbers refl;
  rows = all-more (λ p. p.0.now ≡ packed_row c.args.width c.args.words.now p.1) c.loop-k.pairs.items c.push.new.self.items _ c.in_ok-push.ensures.items c.loop-k.invariant.rows c.row_of.ensures;
}
