use Rattle.std.proofs.Common.{◌≡◌, ◌++◌, ◌∷◌, [], ◌∙◌, ◌<◌, sym, refl, length, arith, rules}
use Rattle.ply_mesh.specs.Body.{numbers_of, texts}
use Rattle.ply_mesh.proofs.RowSteps.{row_begun, token_more, tokens_done, token_none}
use Rattle.ply_mesh.proofs.rows.put_numbers.Goals as goal

pub loop-j-init : goal.loop-j-init
loop-j-init c = row_begun _ _

pub returns-in_default : goal.returns-in_default
returns-in_default c =
    let none = token_none c.args.columns.now c.args.found.now c.args.out.now.items c.loop-j.out.items c.loop-j.j _ _ c.requires c.loop-j-test.true (sym c.number_of.ensures ∙ c.in_default.is) c.loop-j.invariant in
    rw (c.new.ensures, none) refl

pub loop-j-preserved : goal.loop-j-preserved
loop-j-preserved c =
    let pushed : c.push.new.self.items ≡ c.loop-j.out.items ++ c.in-Some.value ∷ [] = search rules in
    let inside : c.loop-j.j < length c.args.found.now = omega arith in
    rw pushed (token_more (numbers_of c.args.columns.now (texts c.args.found.now)) c.args.out.now.items c.loop-j.out.items c.args.columns.now c.args.found.now c.loop-j.j _ _ c.in-Some.value c.loop-j-test.true inside (sym c.number_of.ensures ∙ c.in-Some.is) c.loop-j.invariant)

pub returns : goal.returns
returns c = tokens_done c.args.columns.now c.args.at c.args.found.now c.args.out.now.items c.loop-j.out.items c.loop-j.j c.requires (omega arith) c.loop-j.invariant
