use Rattle.std.proofs.Common.{◌++◌, ◌∙◌}
use Rattle.std.proofs.lemmas.Result.{err_from_is_err_and}
use Rattle.drc_container.specs.choice.Refused.{values_fault}
use Rattle.drc_container.specs.writing.WrittenOnSurface.{coded_values, decoder_heads_bytes, values_bytes_on}
use Rattle.drc_container.specs.surface.AttributeSurfaces.{glued_on}
use Rattle.drc_container.specs.choice.CanCode.{CanCode}
use Rattle.drc_container.proofs.lemmas.choice.FirstRefusals.{refuses-alike, value-given}
use Rattle.drc_container.proofs.lemmas.surface.Tracing.{value-there}
use Rattle.drc_container.proofs.lemmas.writing.SurfaceEncoded.{values-can, value-told}
use Rattle.drc_container.proofs.writing.edgebreaker.put_attributes_over.Goals.{In_ok-values}
use Rattle.drc_container.proofs.writing.edgebreaker.put_attributes_over.Goals as goal

pub returns-in_err-values-clause-answer : goal.returns-in_err-values-clause-answer
returns-in_err-values-clause-answer c =
    let coding = c.args.coding.now in
    let d = glued_on c.args.s.now in
    let p = err_from_is_err_and c.from_residual.result c.from_residual.ensures.1 in
    rw (p.1, p.2)
    (refuses-alike (values_fault coding d) (coded_values coding d) (c.args.out.now.items ++ (decoder_heads_bytes coding d ++ values_bytes_on coding d)) c.in_err-values.field-0.0 c.in_err-values.ensures)

-- the values can be coded
can : (c : In_ok-values) → CanCode (glued_on c.args.s.now).mesh.heads (coded_values c.args.coding.now (glued_on c.args.s.now))
can c = values-can c.args.coding.now (glued_on c.args.s.now) c.in_ok-values.values.items c.in_ok-values.ensures

pub write_attributes-requires-clause-can : goal.write_attributes-requires-clause-can
write_attributes-requires-clause-can c = can (goal.at.write_attributes-requires-clause-can c).In_ok-values

pub returns-clause-can : goal.returns-clause-can
returns-clause-can c = can (goal.at.returns-clause-can c).In_ok-values

pub write_attributes-requires-clause-values : goal.write_attributes-requires-clause-values
write_attributes-requires-clause-values c =
    let coding = c.args.coding.now in
    let d = glued_on c.args.s.now in
    c.as_slice.ensures.value ∙ value-told (values_fault coding d) (coded_values coding d) c.in_ok-values.values.items c.in_ok-values.ensures

pub returns-clause-answer : goal.returns-clause-answer
returns-clause-answer c =
    let coding = c.args.coding.now in
    let d = glued_on c.args.s.now in
    let none = value-given (values_fault coding d) (coded_values coding d) c.in_ok-values.values.items c.in_ok-values.ensures in
    value-there (values_fault coding d) (c.args.out.now.items ++ (decoder_heads_bytes coding d ++ values_bytes_on coding d)) c.write_attributes.new.out.items none c.in_ok-write_attributes.ensures.bytes
