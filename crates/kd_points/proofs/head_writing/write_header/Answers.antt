use Rattle.std.proofs.Common.{length, ap, arith}
use Rattle.kd_points.proofs.Headed.{heads_few}
use Rattle.kd_points.proofs.head_writing.write_header.Goals as goal

pub overflow_cast-heads : goal.overflow_cast-heads
overflow_cast-heads c =
    let few = heads_few c.args.cloud.now.heads c.heads-heads.ensures.sound.heads_pass in
    let same = ap length c.heads-heads.ensures.value in
    omega (arith, few, same)
