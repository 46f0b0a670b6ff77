use Rattle.std.proofs.Common.{◌∷◌, [], ◌∙◌}
use Rattle.std.specs.Fmt.{decimal}
use Rattle.ply_mesh.proofs.LineTexts.{onto, octa_text}
use Rattle.ply_mesh.proofs.head_writer.put_octa.Goals as goal

pub returns : goal.returns
returns c =
    onto (10 ∷ []) c.in_ok-push.ensures.items
    (onto (32 ∷ decimal c.args.bits) c.in_ok-append_spaced-2.ensures
    (onto (32 ∷ decimal c.args.k) c.in_ok-append_spaced.ensures c.in_ok-extend_from_slice.ensures.items))
    ∙ octa_text c.args.out.now.items c.args.k c.args.bits
