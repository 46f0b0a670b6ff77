-- The faces so far are walked.
use Rattle.std.proofs.Common.{◌≡◌, length}
use Rattle.walk_order.specs.PredictionDegree.{ranked}
use Rattle.walk_order.specs.Stored.{gluing_in}
use Rattle.walk_order.specs.Ranking.{ranked_of, IsRanked}
use Rattle.walk_order.proofs.degree_walk.rank_all.Given as goal

abbrev pub invariant-loop-face : goal.invariant-loop-face
invariant-loop-face l = record {
  stored : IsRanked l.s l.ranks;
  ranked : ranked_of l.ranks ≡ ranked l.s.faces (gluing_in l.s) l.s.labels.now (length l.s.ends.now) l.face;
}
