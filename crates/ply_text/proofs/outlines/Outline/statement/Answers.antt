use Rattle.std.proofs.Common.{sym, ◌∙◌}
use Rattle.ply_text.specs.Tokens.{tokens_of}
use Rattle.ply_text.proofs.OutlineSteps.{comment_line, other_line}
use Rattle.ply_text.proofs.outlines.Outline.statement.Goals as goal

pub returns-in-Comment : goal.returns-in-Comment
returns-in-Comment c =
    comment_line c.args.profile.number c.args.at (tokens_of c.args.line.now) c.args.self.now c.comment.new.self c.comment.result (sym c.keyword_at-word.ensures ∙ c.in-Comment.is) c.comment.ensures

pub returns-in_default : goal.returns-in_default
returns-in_default c =
    other_line c.args.profile.number c.args.at (tokens_of c.args.line.now) c.keyword_at-word.result c.args.self.now c.body.new.self c.body.result (sym c.keyword_at-word.ensures)
    c.in_default.not-Comment c.in_default.not-ObjInfo c.body.ensures
