use Rattle.std.proofs.Common.{◌∷◌, [], ◌++◌, ◌∙◌, take}
use Rattle.std.specs.Fmt.{decimal}
use Rattle.ply_mesh.proofs.LineTexts.{onto}
use Rattle.ply_mesh.proofs.RowTexts.{face_text}
use Rattle.ply_mesh.proofs.writing.put_face.Goals as goal

pub returns-clause-text : goal.returns-clause-text
returns-clause-text c =
    onto (decimal c.args.c ++ 10 ∷ []) c.put_unsigned.ensures.text
    (onto (decimal c.args.b ++ 32 ∷ []) c.put_unsigned-end-2.ensures.text
    (onto (decimal c.args.a ++ 32 ∷ []) c.put_unsigned-end.ensures.text c.put_count.ensures))
    ∙ face_text (take c.args.at c.args.buf.now) c.args.a c.args.b c.args.c
