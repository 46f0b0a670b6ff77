use Rattle.std.proofs.Common.{◌∷◌, [], ◌∙◌, map}
use Rattle.std.specs.Fmt.{decimal}
use Rattle.ply_mesh.specs.Text.{spaced, pattern_text}
use Rattle.ply_mesh.proofs.LineTexts.{onto, quant_text}
use Rattle.ply_mesh.proofs.head_writer.put_quant.Goals as goal

pub returns-clause-text : goal.returns-clause-text
returns-clause-text c =
    let q = c.args.quant.now in
    let patterns = rw c.as_slice.ensures.items at c.in_ok-put_patterns.ensures.text in
    onto (10 ∷ []) c.in_ok-push.ensures.items
    (onto (spaced (map pattern_text q.min)) patterns
    (onto (32 ∷ pattern_text q.range) c.in_ok-put_pattern.ensures
    (onto (32 ∷ decimal q.bits) c.in_ok-append_spaced-2.ensures
    (onto (32 ∷ decimal c.args.k) c.in_ok-append_spaced.ensures c.in_ok-extend_from_slice.ensures.items))))
    ∙ quant_text c.args.out.now.items c.args.k q
