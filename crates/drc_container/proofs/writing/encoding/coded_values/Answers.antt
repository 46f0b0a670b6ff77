use Rattle.std.proofs.Common.{◌∙◌, ap}
use Rattle.drc_container.specs.writing.Written.{values_of}
use Rattle.std.proofs.lemmas.Result.{err_from_is_err_and}
use Rattle.drc_container.proofs.lemmas.choice.FirstRefusals.{later-refuses, later-gives, later-can}
use Rattle.drc_container.proofs.writing.encoding.coded_values.Goals as goal

pub returns-in_err-test_ranges-clause-answer : goal.returns-in_err-test_ranges-clause-answer
returns-in_err-test_ranges-clause-answer c =
    let p = err_from_is_err_and c.from_residual-in_err-test_ranges.result c.from_residual-in_err-test_ranges.ensures.1 in
    rw (p.1, p.2)
    (later-refuses c.args.g.now c.args.choice.now _ _ c.in_err-test_ranges.field-0.0 c.point_count-count.ensures.sound c.requires.early c.requires.sequential
    c.heads.ensures.heads (c.as_slice.ensures.value ∙ (c.in_ok-values.ensures ∙ ap (values_of c.args.g.now) c.predict_of-predict.ensures)) c.in_err-test_ranges.ensures)

pub returns-clause-answer : goal.returns-clause-answer
returns-clause-answer c =
    later-gives c.args.g.now c.args.choice.now _ c.in_ok-values.values.items c.point_count-count.ensures.sound c.requires.early c.requires.sequential
    c.heads.ensures.heads (c.in_ok-values.ensures ∙ ap (values_of c.args.g.now) c.predict_of-predict.ensures) (rw c.as_slice.ensures.value at c.in_ok-test_ranges.ensures)

pub returns-clause-can : goal.returns-clause-can
returns-clause-can c =
    later-can c.args.g.now c.args.choice.now _ _ c.point_count-count.ensures.sound c.requires.early c.requires.sequential
    c.heads.ensures.heads (c.as_slice.ensures.value ∙ (c.in_ok-values.ensures ∙ ap (values_of c.args.g.now) c.predict_of-predict.ensures)) c.in_ok-test_ranges.ensures
