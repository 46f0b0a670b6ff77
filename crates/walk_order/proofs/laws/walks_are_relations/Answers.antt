use Rattle.walk_order.proofs.Fuel.{walk_is_relation}
use Rattle.walk_order.proofs.Rating.{visits_are_relation}
use Rattle.walk_order.proofs.laws.walks_are_relations.Goals as goal

pub returns : goal.returns
returns c = record { depth_first = walk_is_relation; prediction_degree = visits_are_relation }
