-- The copy is the geometry.
use Rattle.std.proofs.Common.{◌≡◌, None, false, sym, subst}
use Rattle.std.specs.Prelude.{IfOk}
use Rattle.drc_base.specs.Refusals.{Answers}
use Rattle.mesh_model.specs.declared.geometries.Geometry.{Geometry}
use Rattle.drc_container.specs.choice.Choice.{method_of, is_sequential}
use Rattle.drc_container.specs.choice.Refused.{early_fault}
use Rattle.drc_container.specs.writing.Encoded.{encoding_due, Means}
use Rattle.drc_container.specs.writing.Layout.{IsLaidOut}
use Rattle.drc_container.proofs.writing.encoding.encode_copied.Goals as goal

pub encode_on_surface-requires-clause-early : goal.encode_on_surface-requires-clause-early
encode_on_surface-requires-clause-early c =
    subst (λ (g : Geometry). early_fault g c.args.choice.now ≡ None) (sym c.in_ok-copy.ensures) c.requires.early

pub encode_on_surface-requires-clause-surface : goal.encode_on_surface-requires-clause-surface
encode_on_surface-requires-clause-surface c =
    subst (λ (g : Geometry). is_sequential (method_of g c.args.choice.now) ≡ false) (sym c.in_ok-copy.ensures) c.requires.surface

pub returns-clause-answer : goal.returns-clause-answer
returns-clause-answer c =
    subst (λ (g : Geometry). Answers (λ r. (r.0.items, r.1.rows)) (encoding_due g c.args.choice.now) c.encode_on_surface.result)
    c.in_ok-copy.ensures c.encode_on_surface.ensures.answer

pub returns-clause-means : goal.returns-clause-means
returns-clause-means c =
    subst (λ (g : Geometry). IfOk c.encode_on_surface.result (λ r. Means g c.args.choice.now r.0.items r.1.rows))
    c.in_ok-copy.ensures c.encode_on_surface.ensures.means

pub returns-clause-layout : goal.returns-clause-layout
returns-clause-layout c =
    subst (λ (g : Geometry). IfOk c.encode_on_surface.result (λ r. IsLaidOut g c.args.choice.now r.0.items))
    c.in_ok-copy.ensures c.encode_on_surface.ensures.layout
