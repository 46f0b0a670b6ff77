use Rattle.std.proofs.Common.{◌∷◌, [], ◌∙◌}
use Rattle.ply_text.specs.PropertyTypes.{type_word}
use Rattle.ply_mesh.specs.Text.{name_at}
use Rattle.ply_mesh.proofs.LineTexts.{onto}
use Rattle.ply_mesh.proofs.PropertyTexts.{property_text}
use Rattle.ply_mesh.proofs.property_writer.put_property.Goals as goal

pub returns : goal.returns
returns c =
    let word = rw c.type_word.ensures at c.in_ok-extend_from_slice-2.ensures.items in
    onto (10 ∷ []) c.in_ok-push-2.ensures.items
    (onto (name_at c.args.named c.args.k c.args.usage c.args.j) c.in_ok-put_name.ensures
    (onto (32 ∷ []) c.in_ok-push.ensures.items
    (onto (type_word c.args.dtype) word c.in_ok-extend_from_slice.ensures.items)))
    ∙ property_text c.args.out.now.items c.args.dtype (name_at c.args.named c.args.k c.args.usage c.args.j)
