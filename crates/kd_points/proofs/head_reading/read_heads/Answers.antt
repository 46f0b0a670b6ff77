use Rattle.std.proofs.Common.{◌≡◌, Ok}
use Rattle.kd_points.specs.Header.{kd_heads_at}
use Rattle.kd_points.proofs.Headed.{heads_passed}
use Rattle.kd_points.proofs.head_reading.read_heads.Goals as goal

pub returns-clause-pass : goal.returns-clause-pass
unfolding kd_heads_at
returns-clause-pass c =
    let is : kd_heads_at c.args.c.now ≡ Ok (c.in_ok-heads.heads.items, c.read_attributes.new.c) = rw c.in_ok-n.ensures c.in_ok-heads.ensures in
    heads_passed c.args.c.now (c.in_ok-heads.heads.items, c.read_attributes.new.c) is
