use Rattle.std.proofs.Common.{◌≡◌, ◌∙◌, ◌∷◌, ◌+◌, List, ℕ, length, take, ap, sym, rules, arith}
use Rattle.std.specs.Str.Lines.{lines}
use Rattle.std.proofs.lemmas.List.{take_rest}
use Rattle.ply_text.specs.Tokens.{tokens_of}
use Rattle.ply_mesh.specs.Ahead.{IsRowAhead}
use Rattle.ply_mesh.proofs.RowSteps.{row_whole}
use Rattle.ply_mesh.proofs.bodies.take_row.Goals as goal

pub returns-in-Some-clause-fewer : goal.returns-in-Some-clause-fewer
returns-in-Some-clause-fewer c =
    let text = c.rest-text.result.now in
    let end = c.in-Some.end in
    let ahead : IsRowAhead c.args.columns.now text end c.args.out.now.items c.row_ahead.new.out.items = search rules in
    let after = c.new.ensures.lines ∙ ap lines (take_rest text (end + 1)) in
    omega (arith, ap length (c.rest-text.ensures ∙ ahead.line.cut), ap length after)

pub returns-in-Some-clause-row : goal.returns-in-Some-clause-row
returns-in-Some-clause-row c =
    let text = c.rest-text.result.now in
    let end = c.in-Some.end in
    let ahead : IsRowAhead c.args.columns.now text end c.args.out.now.items c.row_ahead.new.out.items = search rules in
    let after = c.new.ensures.lines ∙ ap lines (take_rest text (end + 1)) in
    let cut : c.args.lines.now ≡ take end text ∷ c.new.result = c.rest-text.ensures ∙ ahead.line.cut ∙ ap (λ (ls : List (List ℕ)). take end text ∷ ls) (sym after) in
    (take end text, cut, row_whole c.args.columns.now c.args.at (tokens_of (take end text)) c.args.out.now.items c.row_ahead.new.out.items ahead.row)
