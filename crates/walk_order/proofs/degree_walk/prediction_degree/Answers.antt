-- Every class has an entry.
use Rattle.walk_order.proofs.Ranking.{all_ranked}
use Rattle.walk_order.proofs.Ordered.{is_ordered}
use Rattle.walk_order.proofs.degree_walk.prediction_degree.Goals as goal

pub order_of-requires-clause-all : goal.order_of-requires-clause-all
order_of-requires-clause-all c = all_ranked c.surface_of-s.result c.in_ok-ranks.ranks c.surface_of-s.ensures.surface c.in_ok-ranks.ensures.ranked

pub returns-clause-ordered : goal.returns-clause-ordered
returns-clause-ordered c =
    let surface = c.surface_of-s.ensures in
    is_ordered c.surface_of-s.result c.args.t.now c.args.c.now.of_corner _ c.order_of.result surface.gluing surface.faces surface.labels c.order_of.ensures.classes c.order_of.ensures.faces
