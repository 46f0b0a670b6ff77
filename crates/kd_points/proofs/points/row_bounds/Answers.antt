use Rattle.std.proofs.Common.{[], replicate, arith}
use Rattle.attr_heads.specs.declared.heads.Head.{Head}
use Rattle.attr_heads.specs.Bounds.{bounds_of}
use Rattle.kd_points.proofs.Appending.{appended-more}
use Rattle.kd_points.proofs.points.row_bounds.Goals as goal

pub loop-head-preserved : goal.loop-head-preserved
loop-head-preserved c =
    appended-more (λ (h : Head). replicate h.comps (bounds_of h)) c.args.heads.now c.loop-head.head-index c.head-item.result [] c.loop-head.row.items c.append_bounds.new.row.items (omega arith) c.head-item.is c.loop-head.invariant (rw c.bounds.ensures at c.in_ok-append_bounds.ensures)
