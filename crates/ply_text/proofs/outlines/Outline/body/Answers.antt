use Rattle.std.proofs.Common.{sym, ap, ◌∙◌}
use Rattle.ply_text.specs.DeclaredLines.{OutlineParts}
use Rattle.ply_text.specs.Tokens.{tokens_of}
use Rattle.ply_text.proofs.OutlineSteps.{body_follows}
use Rattle.ply_text.proofs.outlines.Outline.body.Goals as goal

pub returns-then-self : goal.returns-then-self
returns-then-self c =
    body_follows c.args.at (tokens_of c.args.line.now) c.args.word c.args.self.now c.declaration.new.self c.declaration.result
    (sym (ap (λ (o : OutlineParts). o.formatted) c.self.view_is) ∙ c.if-self.true) c.declaration.ensures
