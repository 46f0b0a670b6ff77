use Rattle.kd_points.proofs.OneOrder.{one_order}
use Rattle.kd_points.proofs.laws.order_is_one.Goals as goal

pub returns : goal.returns
returns c = one_order
