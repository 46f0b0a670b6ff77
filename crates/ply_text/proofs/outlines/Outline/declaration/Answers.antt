use Rattle.std.proofs.Common.{sym, ◌∙◌, subst}
use Rattle.ply_text.specs.declared.words.Keyword.{Keyword}
use Rattle.ply_text.specs.Tokens.{tokens_of}
use Rattle.ply_text.specs.DeclaredLines.{Follows}
use Rattle.ply_text.specs.Draft.{declaration}
use Rattle.ply_text.proofs.OutlineSteps.{list_follows, scalar_follows}
use Rattle.ply_text.proofs.outlines.Outline.declaration.Goals as goal

pub returns-then-is_list : goal.returns-then-is_list
returns-then-is_list c =
    let line = tokens_of c.args.line.now in
    subst (λ (w : Keyword). Follows (λ d. declaration c.args.at d line w) c.args.self.now c.list.new.self c.list.result) (sym c.in-Property.is)
    (list_follows c.args.at line c.args.self.now c.list.new.self c.list.result (sym c.is_list.ensures ∙ c.if-is_list.true) c.list.ensures)

pub returns-in-Element : goal.returns-in-Element
returns-in-Element c =
    let line = tokens_of c.args.line.now in
    subst (λ (w : Keyword). Follows (λ d. declaration c.args.at d line w) c.args.self.now c.element.new.self c.element.result) (sym c.in-Element.is) c.element.ensures

pub returns-else-is_list : goal.returns-else-is_list
returns-else-is_list c =
    let line = tokens_of c.args.line.now in
    subst (λ (w : Keyword). Follows (λ d. declaration c.args.at d line w) c.args.self.now c.args.self.now c.scalar.result) (sym c.in-Property.is)
    (scalar_follows c.args.at line c.args.self.now c.args.self.now c.scalar.result (sym c.is_list.ensures ∙ c.if-is_list.false) c.scalar.ensures)
