use Rattle.std.proofs.Common.{◌∷◌, [], ◌∙◌}
use Rattle.std.specs.Fmt.{decimal}
use Rattle.ply_mesh.proofs.LineTexts.{onto}
use Rattle.ply_mesh.proofs.RowTexts.{element_text}
use Rattle.ply_mesh.proofs.header_writer.put_element.Goals as goal

pub returns : goal.returns
returns c =
    onto (10 ∷ []) c.in_ok-push.ensures.items
    (onto (32 ∷ decimal c.args.n) c.in_ok-append_spaced.ensures
    (onto c.args.name.now c.in_ok-extend_from_slice-2.ensures.items c.in_ok-extend_from_slice.ensures.items))
    ∙ element_text c.args.out.now.items c.args.name.now c.args.n
