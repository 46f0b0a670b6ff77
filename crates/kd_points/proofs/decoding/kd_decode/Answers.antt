use Rattle.attr_heads.proofs.ProfileHeads.{heads-had}
use Rattle.kd_points.proofs.ProfileHeads.{file-unsquared}
use Rattle.kd_points.proofs.decoding.kd_decode.Goals as goal

pub returns-clause-heads : goal.returns-clause-heads
returns-clause-heads c = heads-had 2 c.in_ok-cloud.cloud.heads (λ old. file-unsquared c.new-c.result (c.in_ok-cloud.cloud, _) c.in_ok-cloud.ensures.file)
