use Rattle.std.proofs.Common.{◌≡◌, ◌∙◌, ◌∷◌, ◌++◌, ◌+◌, ◌-◌, List, [], ℕ, length, map, ap, sym, rules, arith}
use Rattle.std.proofs.lemmas.Result.{err_from_is_err_and}
use Rattle.ply_text.specs.Tokens.{tokens_of}
use Rattle.ply_mesh.specs.Body.{face_of, items_from}
use Rattle.ply_mesh.proofs.ItemSteps.{with_front, item_more, first_refused}
use Rattle.ply_mesh.proofs.bodies.read_faces.Goals as goal

pub returns-in_err-face-clause-faces : goal.returns-in_err-face-clause-faces
returns-in_err-face-clause-faces c =
    let item = face_of c.args.list c.args.points in
    let p = err_from_is_err_and c.from_residual-in_err-face.result c.from_residual-in_err-face.ensures.1 in
    rw (p.1, p.2) (first_refused item c.loop-i.faces.items c.args.count c.loop-i.i c.args.at (map tokens_of c.loop-i.lines) _ _ c.loop-i-test.true c.in_err-face.ensures.face c.loop-i.invariant.0)

pub loop-i-preserved : goal.loop-i-preserved
loop-i-preserved c =
    let item = face_of c.args.list c.args.points in
    let front = c.loop-i.faces.items in
    let t = c.in_ok-face.ensures.face in
    let pushed : c.push.new.self.items ≡ front ++ c.in_ok-face.face ∷ [] = search rules in
    let now = ap (λ (ls : List (List ℕ)). with_front front (items_from item (c.args.count - c.loop-i.i) (c.args.at + c.loop-i.i) (map tokens_of ls))) t.1 in
    let step = item_more item front c.args.count c.loop-i.i c.args.at (tokens_of t.0) (map tokens_of c.take_face.new.lines) c.in_ok-face.face c.loop-i-test.true t.2 in
    let shorter = ap length t.1 in
    (ap (λ (fs : List (List ℕ)). with_front fs (items_from item (c.args.count - (c.loop-i.i + 1)) (c.args.at + (c.loop-i.i + 1)) (map tokens_of c.take_face.new.lines))) pushed ∙ sym step ∙ sym now ∙ c.loop-i.invariant.0, omega arith)
