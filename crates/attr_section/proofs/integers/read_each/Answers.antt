use Rattle.std.proofs.Common.{rules, ◌+◌, ap, ◌∙◌, arith, FitsSigned, w32}
use Rattle.std.proofs.lemmas.Int.{to_z-of_z}
use Rattle.std.proofs.lemmas.List.{length_push}
use Rattle.std.proofs.lemmas.Result.{err_from_is_err_and}
use Rattle.drc_bits.specs.Reading.{many_at}
use Rattle.drc_bits.proofs.Many.{many_at-next, many_at-fault, many_at-end}
use Rattle.attr_section.specs.Values.{plain_value_at}
use Rattle.attr_section.proofs.integers.read_each.Goals as goal

pub returns-in_err-value-clause-item : goal.returns-in_err-value-clause-item
returns-in_err-value-clause-item c =
    let p = err_from_is_err_and c.from_residual.result c.from_residual.ensures.1 in
    rw (p.1, p.2) (many_at-fault (plain_value_at c.args.width) c.args.n c.loop-number._number c.loop-number.c c.loop-number.values.items c.in_err-value.field-0.0 (many_at (plain_value_at c.args.width) c.args.n c.args.c.now) c.loop-number.invariant.0 (omega arith) c.in_err-value.ensures)

pub loop-number-preserved : goal.loop-number-preserved
loop-number-preserved c =
    let fits : FitsSigned w32 c.in_ok-value.value = search rules in
    let items = simp to_z-of_z at c.in_ok-push.ensures.items in
    rw items (
      many_at-next (plain_value_at c.args.width) c.args.n c.loop-number._number c.loop-number.c c.read_plain_value.new.c c.loop-number.values.items c.in_ok-value.value (many_at (plain_value_at c.args.width) c.args.n c.args.c.now) c.loop-number.invariant.0 (omega arith) c.in_ok-value.ensures,
      length_push c.loop-number.values.items c.in_ok-value.value ∙ ap (λ n. n + 1) c.loop-number.invariant.1,
    )

pub returns-clause-item : goal.returns-clause-item
returns-clause-item c = many_at-end (plain_value_at c.args.width) c.args.n c.loop-number._number c.loop-number.c c.loop-number.values.items (many_at (plain_value_at c.args.width) c.args.n c.args.c.now) c.loop-number.invariant.0 (omega arith)
