use Rattle.std.proofs.Common.{arith}
use Rattle.std.proofs.lemmas.Result.{err_from_is_err_and}
use Rattle.drc_bits.specs.Reading.{many_at}
use Rattle.drc_bits.proofs.Many.{many_at-next, many_at-end}
use Rattle.kd_points.specs.Header.{kd_head_at}
use Rattle.kd_points.proofs.Refusing.{many_at-refuses}
use Rattle.kd_points.proofs.head_reading.read_attributes.Goals as goal

pub returns-in_err-head : goal.returns-in_err-head
returns-in_err-head c =
    let p = err_from_is_err_and c.from_residual.result c.from_residual.ensures.1 in
    rw (p.1, p.2) (many_at-refuses kd_head_at c.args.n c.loop-number._number c.loop-number.c c.loop-number.heads.items c.in_err-head.field-0.0 (many_at kd_head_at c.args.n c.args.c.now) c.loop-number.invariant (omega arith) c.in_err-head.ensures)

pub loop-number-preserved : goal.loop-number-preserved
loop-number-preserved c =
    rw c.in_ok-push.ensures.items
    (many_at-next kd_head_at c.args.n c.loop-number._number c.loop-number.c c.read_head.new.c c.loop-number.heads.items c.in_ok-head.head (many_at kd_head_at c.args.n c.args.c.now) c.loop-number.invariant (omega arith) c.in_ok-head.ensures)

pub returns : goal.returns
returns c = many_at-end kd_head_at c.args.n c.loop-number._number c.loop-number.c c.loop-number.heads.items (many_at kd_head_at c.args.n c.args.c.now) c.loop-number.invariant (omega arith)
