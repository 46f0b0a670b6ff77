use Rattle.drc_verify.proofs.RowsDecided.{point_told}
use Rattle.drc_verify.proofs.rows.points_agree.Goals as goal

pub returns : goal.returns
returns c = point_told c.args.m.now c.args.n.now c.args.i c.args.named c.args.turn c.same_point.result c.same_point.ensures
