use Rattle.std.proofs.Common.{◌∙◌, ◌-◌, drop, ap, subst, Result}
use Rattle.std.proofs.lemmas.Result.{err_from_is_err_and}
use Rattle.drc_base.specs.declared.faults.Fault.{Fault}
use Rattle.drc_base.specs.Refusals.{Answers}
use Rattle.mesh_model.specs.declared.geometries.Geometry.{Geometry}
use Rattle.ply_mesh.proofs.BodySteps.{header_fault, body_is}
use Rattle.ply_mesh.proofs.reading.read_ply.Goals as goal

pub returns-in_err-header-clause-geometry : goal.returns-in_err-header-clause-geometry
returns-in_err-header-clause-geometry c =
    let p = err_from_is_err_and c.from_residual.result c.from_residual.ensures.1 in
    rw (p.1, p.2) (header_fault c.args.profile.number c.args.bytes.now _ c.in_err-header.ensures.header)

pub returns-clause-geometry : goal.returns-clause-geometry
returns-clause-geometry c =
    let left = c.skip_lines.ensures ∙ ap (drop (c.in_ok-header.header.body_line - 1)) c.new-lines.ensures.lines in
    subst (λ (due : Result Geometry Fault). Answers {A = Geometry} {B = Geometry} (λ g. g) due c.read_body.result) (body_is c.args.profile.number c.args.bytes.now c.in_ok-header.header c.skip_lines.new.lines c.in_ok-header.ensures.header left) c.read_body.ensures
