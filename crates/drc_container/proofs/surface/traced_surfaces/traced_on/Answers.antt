use Rattle.std.proofs.Common.{ap, sym, ◌∙◌, subst}
use Rattle.corner_table.specs.Table.{gluing_of}
use Rattle.corner_table.specs.Carried.{IsRenumbering}
use Rattle.drc_container.specs.writing.WrittenOnSurface.{traced}
use Rattle.drc_container.specs.choice.Refused.{vertices_fault}
use Rattle.drc_container.proofs.lemmas.surface.Tracing.{decoded-pairs}
use Rattle.drc_container.proofs.lemmas.writing.SurfaceEncoded.{value-told}
use Rattle.drc_container.proofs.surface.traced_surfaces.traced_on.Goals as goal

pub carried_surface-requires : goal.carried_surface-requires
carried_surface-requires c = subst (IsRenumbering c.args.sides.faces) (sym c.as_slice.ensures.items) c.in_ok-trace.ensures.once

pub returns-clause-pairs : goal.returns-clause-pairs
returns-clause-pairs c =
    let m = c.args.mesh.now in
    let trace = c.in_ok-trace.trace in
    decoded-pairs m trace.order c.as_slice.result.now (gluing_of c.args.sides) (gluing_of c.in_ok-sides.sides) c.requires.pairs
    (ap (λ r. r.order) (value-told (vertices_fault m) (traced m) trace c.in_ok-trace.ensures.trace)) c.as_slice.ensures.items c.in_ok-sides.ensures.pairs

pub returns-clause-faces : goal.returns-clause-faces
returns-clause-faces c = c.in_ok-sides.ensures.faces ∙ c.requires.faces

pub returns-clause-writable : goal.returns-clause-writable
returns-clause-writable c = c.in_ok-trace.ensures.writable
