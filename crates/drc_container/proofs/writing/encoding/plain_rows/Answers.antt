use Rattle.std.proofs.Common.{◌∙◌, ◌++◌, ◌∷◌, [], ap, sym}
use Rattle.drc_container.proofs.lemmas.writing.Attributed.{plain-more}
use Rattle.drc_container.proofs.writing.encoding.plain_rows.Goals as goal

pub loop-i-preserved : goal.loop-i-preserved
loop-i-preserved c = c.in_ok-push.ensures.items ∙ ap (λ rows. rows ++ (c.loop-i.i, 0) ∷ []) c.loop-i.invariant ∙ sym (plain-more c.loop-i.i)
