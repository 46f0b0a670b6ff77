use Rattle.std.proofs.Common.{◌≡◌, ◌++◌, ◌∷◌, [], refl, rules}
use Rattle.ply_text.specs.Tokens.{tokens_of}
use Rattle.ply_mesh.specs.Body.{numbers_of}
use Rattle.ply_mesh.proofs.RowSteps.{row_more}
use Rattle.ply_mesh.proofs.rows.row_in_place.Goals as goal

pub loop-j-preserved : goal.loop-j-preserved
loop-j-preserved c =
    let pushed : c.push.new.self.items ≡ c.loop-j.out.items ++ c.in-Some.found.0 ∷ [] = search rules in
    let step = row_more (numbers_of c.args.columns.now (tokens_of c.args.line.now)) c.args.out.now.items c.loop-j.out.items c.args.columns.now c.args.line.now c.loop-j.j c.loop-j.place c.in-Some.found.1 _ _ c.in-Some.found.0 c.loop-j-test.true refl c.in-Some.ensures.bounds c.in-Some.ensures.first c.loop-j.invariant.0 in
    (rw pushed step, c.in-Some.ensures.within, c.loop-j.invariant.2)
