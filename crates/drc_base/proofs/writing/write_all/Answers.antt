use Rattle.std.proofs.Common.{arith}
use Rattle.drc_base.proofs.Appending.{Written-put}
use Rattle.drc_base.proofs.writing.write_all.Goals as goal

pub loop-rest-preserved : goal.loop-rest-preserved
loop-rest-preserved g c =
    (Written-put _ _ _ _ _ _ c.loop-rest.invariant.0 c.in_ok-n.ensures.bytes, omega (arith, c.loop-rest.invariant.1, c.in_ok-n.ensures.cause.kept))
