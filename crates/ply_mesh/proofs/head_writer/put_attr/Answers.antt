use Rattle.std.proofs.Common.{◌∷◌, [], ◌∙◌}
use Rattle.std.specs.Fmt.{decimal}
use Rattle.ply_mesh.proofs.LineTexts.{onto, attr_text}
use Rattle.ply_mesh.proofs.head_writer.put_attr.Goals as goal

pub returns-clause-text : goal.returns-clause-text
returns-clause-text c =
    let h = c.args.head.now in
    onto (10 ∷ []) c.in_ok-push.ensures.items
    (onto (32 ∷ decimal h.id) c.in_ok-append_spaced-6.ensures
    (onto (32 ∷ decimal h.normalized) c.in_ok-append_spaced-5.ensures
    (onto (32 ∷ decimal h.comps) c.in_ok-append_spaced-4.ensures
    (onto (32 ∷ decimal h.dtype) c.in_ok-append_spaced-3.ensures
    (onto (32 ∷ decimal h.usage) c.in_ok-append_spaced-2.ensures
    (onto (32 ∷ decimal c.args.k) c.in_ok-append_spaced.ensures c.in_ok-extend_from_slice.ensures.items))))))
    ∙ attr_text c.args.out.now.items c.args.k h
