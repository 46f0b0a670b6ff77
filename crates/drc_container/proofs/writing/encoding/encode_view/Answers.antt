use Rattle.std.proofs.Common.{ap}
use Rattle.std.proofs.lemmas.Result.{err_from_is_err_and}
use Rattle.attr_heads.specs.FirstFault.{value_unless}
use Rattle.drc_container.specs.writing.Chosen.{written}
use Rattle.drc_container.proofs.lemmas.choice.FirstRefusals.{refused-early}
use Rattle.drc_container.proofs.writing.encoding.encode_view.Goals as goal

pub returns-in_err-test_early-clause-answer : goal.returns-in_err-test_early-clause-answer
returns-in_err-test_early-clause-answer c =
    let g = c.args.g.now in
    let choice = c.args.choice.now in
    let p = err_from_is_err_and c.from_residual.result c.from_residual.ensures.1 in
    rw (p.1, p.2)
    (ap (λ r. value_unless r (written g choice)) (refused-early g choice c.in_err-test_early.field-0.0 c.in_err-test_early.ensures))
