use Rattle.walk_order.proofs.Covering.{depth_first_lists_classes}
use Rattle.walk_order.proofs.Rating.{prediction_degree_lists_classes}
use Rattle.walk_order.proofs.laws.orders_list_classes.Goals as goal

pub returns : goal.returns
returns c = record { depth_first = depth_first_lists_classes; prediction_degree = prediction_degree_lists_classes }
