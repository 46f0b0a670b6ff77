use Rattle.std.proofs.Common.{arith}
use Rattle.std.proofs.lemmas.Result.{err_from_is_err_and}
use Rattle.drc_bits.specs.Reading.{many_at}
use Rattle.drc_bits.proofs.Many.{many_at-next, many_at-fault, many_at-end}
use Rattle.drc_bits.specs.Numbers.{number_at}
use Rattle.kd_points.proofs.head_reading.read_minima.Goals as goal

pub returns-in_err-minimum : goal.returns-in_err-minimum
returns-in_err-minimum c =
    let p = err_from_is_err_and c.from_residual.result c.from_residual.ensures.1 in
    rw (p.1, p.2) (many_at-fault (number_at 4) c.args.comps c.loop-number._number c.loop-number.c c.loop-number.minima.items c.in_err-minimum.field-0.0 (many_at (number_at 4) c.args.comps c.args.c.now) c.loop-number.invariant (omega arith) c.in_err-minimum.ensures.0)

pub loop-number-preserved : goal.loop-number-preserved
loop-number-preserved c =
    rw c.in_ok-push.ensures.items
    (many_at-next (number_at 4) c.args.comps c.loop-number._number c.loop-number.c c.get_u32.new.self c.loop-number.minima.items c.in_ok-minimum.minimum (many_at (number_at 4) c.args.comps c.args.c.now) c.loop-number.invariant (omega arith) c.in_ok-minimum.ensures)

pub returns : goal.returns
returns c = many_at-end (number_at 4) c.args.comps c.loop-number._number c.loop-number.c c.loop-number.minima.items (many_at (number_at 4) c.args.comps c.args.c.now) c.loop-number.invariant (omega arith)
