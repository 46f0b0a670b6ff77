use Rattle.std.proofs.Common.{◌≡◌, Bool, List, Vec, Global, map, refl, ap, ◌∙◌}
use Rattle.mesh_model.specs.Renumbering.{renumbered}
use Rattle.drc_container.specs.writing.WrittenOnSurface.{decoded, seam_lists}
use Rattle.drc_container.specs.surface.AttributeSurfaces.{glued_by, flag_lists}
use Rattle.drc_container.proofs.lemmas.writing.SurfaceEncoded.{seen-decoded}
use Rattle.drc_container.proofs.lemmas.writing.SurfacePreludes.{trace-is, order-renumbers, trace-few, prelude-bytes, connectivity-again}
use Rattle.drc_container.proofs.writing.preludes.put_prelude_of.Goals.{After-seams_in}
use Rattle.drc_container.proofs.writing.preludes.put_prelude_of.Goals as goal

pub seams_in-requires-clause-rows : goal.seams_in-requires-clause-rows
seams_in-requires-clause-rows c = rw c.as_slice.ensures.items (order-renumbers c.args.mesh.now c.args.traced.now c.face_count-faces.ensures.sound c.requires)

pub put_prelude-requires-clause-vertices : goal.put_prelude-requires-clause-vertices
put_prelude-requires-clause-vertices c = trace-few c.args.mesh.now c.args.traced.now c.face_count-faces.ensures.sound c.requires

-- the mesh and the surface by which the seams are found are those that are decoded
is-decoded : (c : After-seams_in) → glued_by (renumbered c.args.mesh.now c.as_slice.result.now) c.args.traced.now.sides ≡ decoded c.args.mesh.now
is-decoded c =
    let m = c.args.mesh.now in
    seen-decoded m (renumbered m c.as_slice.result.now) c.as_slice.result.now c.args.traced.now.sides refl
    (c.as_slice.ensures.items ∙ ap (λ t. t.order) (trace-is m c.args.traced.now c.requires)) c.requires.pairs

pub returns-clause-flags : goal.returns-clause-flags
returns-clause-flags c = let is = is-decoded (goal.at.returns-clause-flags c).After-seams_in in c.in_ok-bits.ensures.flags ∙ ap flag_lists is

pub returns-clause-bytes : goal.returns-clause-bytes
returns-clause-bytes c =
    let m = c.args.mesh.now in
    let is = is-decoded (goal.at.returns-clause-bytes c).After-seams_in in
    let lists : List (List Bool) = map (λ (v : Vec Bool Global). v.items) c.in_ok-bits.field-0.bits.items in
    prelude-bytes c.args.valence m c.args.traced.now lists c.args.out.now.items _ c.requires (c.in_ok-bits.ensures.bits ∙ ap seam_lists is)
    (rw (c.face_count-faces.ensures.value, c.as_slice-2.ensures.value) at c.in_ok-put_prelude.ensures.bytes m)

pub returns-clause-again : goal.returns-clause-again
returns-clause-again c =
    let is = is-decoded (goal.at.returns-clause-again c).After-seams_in in
    let lists : List (List Bool) = map (λ (v : Vec Bool Global). v.items) c.in_ok-bits.field-0.bits.items in
    connectivity-again c.args.valence c.args.mesh.now c.args.traced.now lists c.requires (c.in_ok-bits.ensures.bits ∙ ap seam_lists is)
    (rw (c.face_count-faces.ensures.value, c.as_slice-2.ensures.value) at c.in_ok-put_prelude.ensures.again)
