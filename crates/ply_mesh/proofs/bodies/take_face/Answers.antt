use Rattle.std.proofs.Common.{◌≡◌, ◌∙◌, ◌∷◌, ◌+◌, List, ℕ, length, take, ap, sym, arith}
use Rattle.std.specs.Str.Lines.{lines}
use Rattle.std.proofs.lemmas.List.{take_rest}
use Rattle.ply_mesh.proofs.bodies.take_face.Goals as goal

pub returns-in-Some-clause-fewer : goal.returns-in-Some-clause-fewer
returns-in-Some-clause-fewer c =
    let text = c.rest-text.result.now in
    let end = c.in-Some.found.1 in
    let after = c.new.ensures.lines ∙ ap lines (take_rest text (end + 1)) in
    omega (arith, ap length (c.rest-text.ensures ∙ c.in-Some.ensures.line.cut), ap length after)

pub returns-in-Some-clause-face : goal.returns-in-Some-clause-face
returns-in-Some-clause-face c =
    let text = c.rest-text.result.now in
    let end = c.in-Some.found.1 in
    let after = c.new.ensures.lines ∙ ap lines (take_rest text (end + 1)) in
    let cut : c.args.lines.now ≡ take end text ∷ c.new.result = c.rest-text.ensures ∙ c.in-Some.ensures.line.cut ∙ ap (λ (ls : List (List ℕ)). take end text ∷ ls) (sym after) in
    (take end text, cut, c.in-Some.ensures.face_is c.args.at)
