use Rattle.std.proofs.Common.{sym, ◌∙◌}
use Rattle.ply_text.specs.Tokens.{tokens_of}
use Rattle.ply_text.proofs.OutlineSteps.{comment_follows}
use Rattle.ply_text.proofs.outlines.Outline.comment.Goals as goal

pub returns-then-is_form : goal.returns-then-is_form
returns-then-is_form c =
    comment_follows c.args.profile.number c.args.at (tokens_of c.args.line.now) c.args.self.now c.attribute.new.self c.attribute.result
    (sym c.is_form.ensures ∙ c.if-is_form.true) c.attribute.ensures
