-- What is left of the visits comes to the same.
use Rattle.std.proofs.Common.{◌≡◌, ◌-◌, ◌*◌, ◌<◌}
use Rattle.corner_table.specs.Sides.{side_at}
use Rattle.walk_order.specs.PredictionDegree.{visits}
use Rattle.walk_order.specs.Stored.{gluing_in}
use Rattle.walk_order.specs.Ranking.{ranked_of, IsRanked}
use Rattle.walk_order.proofs.degree_walk.Ranks.visits.Given as goal

abbrev pub invariant-loop-turn : goal.invariant-loop-turn
invariant-loop-turn l = record {
  within : l.at < 3 * l.s.faces;
  stored : IsRanked l.s l.self;
  same : visits (gluing_in l.s) l.s.labels.now l.s.faces (ranked_of l.fn.self) (side_at l.start) ≡ visits (gluing_in l.s) l.s.labels.now (l.s.faces - l.turn) (ranked_of l.self) (side_at l.at);
}
