-- Each face is walked from in its turn.
use Rattle.std.proofs.Common.{sym, ◌∙◌}
use Rattle.walk_order.specs.Ranking.{ranked_of}
use Rattle.walk_order.proofs.Ranking.{one_ranked, ranked_nothing}
use Rattle.walk_order.proofs.degree_walk.rank_all.Goals as goal

pub loop-face-init : goal.loop-face-init
loop-face-init c = record {
  stored = c.in_ok-ranks.ensures.stored;
  ranked = c.in_ok-ranks.ensures.ranked ∙ sym (ranked_nothing _ _ _ _);
}

pub loop-face-preserved : goal.loop-face-preserved
loop-face-preserved c = record {
  stored = c.in_ok-walk_from.ensures.stored;
  ranked = one_ranked _ _ _ _ _ (ranked_of c.loop-face.ranks) _ c.loop-face.invariant.ranked c.in_ok-walk_from.ensures.ranked;
}
