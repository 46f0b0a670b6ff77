use Rattle.std.proofs.Common.{◌≡◌, None, Some, Ok, Option, refl, sym, ◌∙◌, subst}
use Rattle.std.proofs.lemmas.Result.{err_from_is_err_and}
use Rattle.drc_base.specs.declared.faults.Fault.{Fault}
use Rattle.drc_base.specs.Refusals.{Answers}
use Rattle.attr_heads.specs.FirstFault.{value_unless}
use Rattle.pairing.specs.Degenerate.{degenerate_fault}
use Rattle.drc_container.specs.declared.surface.traced_surfaces.TracedSurface.{TracedSurface}
use Rattle.drc_container.specs.writing.WrittenOnSurface.{traced}
use Rattle.drc_container.proofs.lemmas.surface.Tracing.{pair-refuses, no-fault, tracing-is}
use Rattle.drc_container.proofs.surface.traced_surfaces.traced_surface.Goals.{In_ok-sides}
use Rattle.drc_container.proofs.surface.traced_surfaces.traced_surface.Goals as goal

pub returns-in_err-sides-clause-trace : goal.returns-in_err-sides-clause-trace
returns-in_err-sides-clause-trace c =
    let p = err_from_is_err_and c.from_residual.result c.from_residual.ensures.1 in
    rw (p.1, p.2) (pair-refuses c.args.mesh.now (traced c.args.mesh.now) c.in_err-sides.field-0.0 c.in_err-sides.ensures.degenerate)

pub returns-in_err-sides-clause-degenerate : goal.returns-in_err-sides-clause-degenerate
returns-in_err-sides-clause-degenerate c = λ f is.
    let p = err_from_is_err_and c.from_residual.result c.from_residual.ensures.1 in
    let told = (c.in_err-sides.ensures.degenerate f).1 is in
    rw (p.1, p.2) (cc)

-- a surface that is paired has no degenerate face
none-is : (c : In_ok-sides) → degenerate_fault c.args.mesh.now ≡ None
none-is c = no-fault (degenerate_fault c.args.mesh.now) (Ok c.in_ok-sides.sides) c.in_ok-sides.sides refl c.in_ok-sides.ensures.degenerate

pub returns-clause-trace : goal.returns-clause-trace
returns-clause-trace c =
    let m = c.args.mesh.now in
    subst (λ (t : Option Fault). Answers (λ (r : TracedSurface). r.trace) (value_unless t (traced m)) c.traced_on.result)
    (sym (tracing-is m (none-is (goal.at.returns-clause-trace c).In_ok-sides))) c.traced_on.ensures.trace

pub returns-clause-degenerate : goal.returns-clause-degenerate
returns-clause-degenerate c = λ f is. let none = none-is (goal.at.returns-clause-degenerate c).In_ok-sides in absurd (let e : None ≡ Some f = sym none ∙ is in cc)
