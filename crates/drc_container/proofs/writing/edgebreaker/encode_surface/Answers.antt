use Rattle.std.proofs.Common.{◌≡◌, ℕ, List, ◌++◌, length, refl, sym, ap, ◌∙◌, subst, arith}
use Rattle.std.proofs.lemmas.Result.{err_from_is_err_and}
use Rattle.corner_table.specs.Carried.{IsRenumbering}
use Rattle.drc_container.specs.writing.WrittenOnSurface.{traced, decoded, decoder_heads_bytes, values_bytes_on, prelude_bytes, edgebreaker_bytes}
use Rattle.drc_container.specs.surface.AttributeSurfaces.{glued_by, flag_lists}
use Rattle.drc_container.proofs.lemmas.surface.Traced.{traced-orders}
use Rattle.drc_container.proofs.lemmas.writing.SurfaceEncoded.{IsTracedTo, traced-to, seen-decoded, values-refuse, surface-can, surface-spelled, stream-due}
use Rattle.drc_container.proofs.writing.edgebreaker.encode_surface.Goals.{After-new-decoded}
use Rattle.drc_container.proofs.writing.edgebreaker.encode_surface.Goals as goal

pub new-decoded-requires : goal.new-decoded-requires
new-decoded-requires c =
    let m = c.args.mesh.now in
    let proper = (traced-to m c.in_ok-traced.traced.trace (decoded m) c.heads-heads.ensures.sound c.in_ok-traced.ensures.trace refl).proper in
    subst (IsRenumbering (length m.faces)) (sym (c.as_slice.ensures.items ∙ c.in_ok-rows.ensures.surface.rows)) (traced-orders m c.heads-heads.ensures.sound proper)

-- the mesh that is seen, with the surface that is kept, is the mesh as it is decoded
is-decoded : (c : After-new-decoded) → glued_by c.new-decoded.result c.in_ok-rows.field-0.sides ≡ decoded c.args.mesh.now
is-decoded c =
    seen-decoded c.args.mesh.now c.new-decoded.result c.as_slice.result.now c.in_ok-rows.field-0.sides c.new-decoded.ensures
    (c.as_slice.ensures.items ∙ c.in_ok-rows.ensures.surface.rows) c.in_ok-rows.ensures.surface.pairs

-- the mesh is traced
is-traced : (c : After-new-decoded) → IsTracedTo c.args.mesh.now c.in_ok-traced.traced.trace (glued_by c.new-decoded.result c.in_ok-rows.field-0.sides)
is-traced c =
    traced-to c.args.mesh.now c.in_ok-traced.traced.trace (glued_by c.new-decoded.result c.in_ok-rows.field-0.sides) c.heads-heads.ensures.sound c.in_ok-traced.ensures.trace (is-decoded c)

pub put_attributes-requires-clause-faces : goal.put_attributes-requires-clause-faces
put_attributes-requires-clause-faces c = c.in_ok-rows.ensures.surface.faces ∙ sym (is-traced (goal.at.put_attributes-requires-clause-faces c).After-new-decoded).faces

pub put_attributes-requires-clause-flags : goal.put_attributes-requires-clause-flags
put_attributes-requires-clause-flags c = c.in_ok-rows.ensures.surface.flags ∙ ap flag_lists (sym (is-decoded (goal.at.put_attributes-requires-clause-flags c).After-new-decoded))

pub put_attributes-requires-clause-some : goal.put_attributes-requires-clause-some
put_attributes-requires-clause-some c =
    let faces = (is-traced (goal.at.put_attributes-requires-clause-some c).After-new-decoded).faces in
    omega (arith, c.requires.some, faces)

pub returns-in_err-put_attributes-clause-answer : goal.returns-in_err-put_attributes-clause-answer
returns-in_err-put_attributes-clause-answer c =
    let m = c.args.mesh.now in
    let coding = c.args.coding.now in
    let d = glued_by c.new-decoded.result c.in_ok-rows.field-0.sides in
    let p = err_from_is_err_and c.from_residual-in_err-put_attributes.result c.from_residual-in_err-put_attributes.ensures.1 in
    rw (p.1, p.2)
    (values-refuse coding m c.in_ok-traced.traced.trace d (edgebreaker_bytes coding m, (traced m).order)
    (c.write_prelude.new.out.items ++ (decoder_heads_bytes coding d ++ values_bytes_on coding d)) c.in_err-put_attributes.field-0.0
    (is-traced (goal.at.returns-in_err-put_attributes-clause-answer c).After-new-decoded) c.in_err-put_attributes.ensures.answer)

pub returns-clause-answer : goal.returns-clause-answer
returns-clause-answer c =
    let k = c.in_ok-rows.field-0 in
    let prelude = prelude_bytes c.args.coding.now.valence c.args.mesh.now in
    stream-due c.args.coding.now c.args.mesh.now c.in_ok-traced.traced.trace (glued_by c.new-decoded.result k.sides) c.write_prelude.new.out.items c.put_attributes.new.out.items k.rows
    (is-traced (goal.at.returns-clause-answer c).After-new-decoded) (c.in_ok-rows.ensures.bytes ∙ ap (λ (l : List ℕ). l ++ prelude) c.new-out.ensures.items)
    c.in_ok-rows.ensures.surface.rows c.in_ok-put_attributes.ensures.answer

pub returns-clause-can : goal.returns-clause-can
returns-clause-can c =
    surface-can c.args.coding.now c.args.mesh.now c.in_ok-traced.traced.trace (glued_by c.new-decoded.result c.in_ok-rows.field-0.sides)
    (is-traced (goal.at.returns-clause-can c).After-new-decoded) c.requires.some c.in_ok-put_attributes.ensures.can

pub returns-clause-spelled : goal.returns-clause-spelled
returns-clause-spelled c =
    surface-spelled c.args.coding.now c.args.mesh.now c.in_ok-traced.traced.trace (glued_by c.new-decoded.result c.in_ok-rows.field-0.sides)
    (is-traced (goal.at.returns-clause-spelled c).After-new-decoded) c.in_ok-rows.ensures.again
    (record { heads = c.in_ok-put_attributes.ensures.heads; again = c.in_ok-put_attributes.ensures.again })
