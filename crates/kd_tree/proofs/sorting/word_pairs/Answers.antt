use Rattle.std.proofs.Common.{ℕ, refl}
use Rattle.kd_tree.specs.Packing.{IsWordOf}
use Rattle.kd_tree.proofs.Orders.{all-more, numbers-more}
use Rattle.kd_tree.proofs.sorting.word_pairs.Goals as goal

pub loop-k-preserved : goal.loop-k-preserved
loop-k-preserved c = record {
  numbers = numbers-more (λ (p : ℕ × ℕ). p.1) c.loop-k.pairs.items c.push.new.self.items _ c.loop-k.k c.in_ok-push.ensures.items c.loop-k.invariant.numbers refl;
  words = all-more (λ (p : ℕ × ℕ). IsWordOf c.args.keys.now p.1 p.0) c.loop-k.pairs.items c.push.new.self.items _ c.in_ok-push.ensures.items c.loop-k.invariant.words (c.number.ensures.small, c.number.ensures.bits);
}
