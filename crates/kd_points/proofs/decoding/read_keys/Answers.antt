use Rattle.std.proofs.Common.{[]}
use Rattle.kd_points.proofs.Counted.{boxes_counted}
use Rattle.kd_points.proofs.decoding.read_keys.Goals as goal

pub returns-clause-count : goal.returns-clause-count
returns-clause-count c = boxes_counted c.fault-fault.result c.args.depth c.args.count [] _ _ c.in_ok-keys.ensures.0
