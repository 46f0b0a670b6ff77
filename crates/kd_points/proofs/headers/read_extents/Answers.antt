use Rattle.std.proofs.Common.{◌+◌, ◌≤◌, ap, ◌∙◌, arith}
use Rattle.std.proofs.lemmas.List.{length_push}
use Rattle.std.proofs.lemmas.List.Elements.{All-push}
use Rattle.std.proofs.lemmas.Result.{err_from_is_err_and}
use Rattle.drc_bits.specs.Reading.{many_at}
use Rattle.drc_bits.proofs.Many.{many_at-next, many_at-fault, many_at-end}
use Rattle.kd_points.specs.Header.{extent_at}
use Rattle.kd_points.proofs.Placed.{extents-place}
use Rattle.kd_points.proofs.headers.read_extents.Goals as goal

pub returns-in_err-extent-clause-item : goal.returns-in_err-extent-clause-item
returns-in_err-extent-clause-item c =
    let p = err_from_is_err_and c.from_residual.result c.from_residual.ensures.1 in
    rw (p.1, p.2) (many_at-fault extent_at c.args.width c.loop-number._number c.loop-number.c c.loop-number.extents.items c.in_err-extent.field-0.0 (many_at extent_at c.args.width c.args.c.now) c.loop-number.invariant.0 (omega arith) c.in_err-extent.ensures.item)

pub loop-number-preserved : goal.loop-number-preserved
loop-number-preserved c =
    rw c.in_ok-push.ensures.items (
      many_at-next extent_at c.args.width c.loop-number._number c.loop-number.c c.read_extent.new.c c.loop-number.extents.items c.in_ok-extent.extent (many_at extent_at c.args.width c.args.c.now) c.loop-number.invariant.0 (omega arith) c.in_ok-extent.ensures.item,
      length_push c.loop-number.extents.items c.in_ok-extent.extent ∙ ap (λ n. n + 1) c.loop-number.invariant.1,
      All-push (λ e. e.bits ≤ 32) c.loop-number.extents.items c.in_ok-extent.extent c.loop-number.invariant.2 c.in_ok-extent.ensures.bits,
    )

pub returns-clause-item : goal.returns-clause-item
returns-clause-item c = many_at-end extent_at c.args.width c.loop-number._number c.loop-number.c c.loop-number.extents.items (many_at extent_at c.args.width c.args.c.now) c.loop-number.invariant.0 (omega arith)

pub returns-clause-place : goal.returns-clause-place
returns-clause-place c =
    extents-place c.args.width c.args.c.now (c.loop-number.extents.items, c.loop-number.c)
    (many_at-end extent_at c.args.width c.loop-number._number c.loop-number.c c.loop-number.extents.items (many_at extent_at c.args.width c.args.c.now) c.loop-number.invariant.0 (omega arith))
