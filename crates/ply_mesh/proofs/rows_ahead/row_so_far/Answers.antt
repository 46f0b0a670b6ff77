use Rattle.std.proofs.Common.{◌≡◌, ◌+◌, ◌++◌, ◌∷◌, [], length, get_or, refl, rules}
use Rattle.ply_mesh.proofs.AheadSteps.{ahead_more, ahead_last, ahead_front}
use Rattle.ply_mesh.proofs.rows_ahead.row_so_far.Goals as goal

pub returns-in_default : goal.returns-in_default
returns-in_default c = ahead_front c.args.columns.now c.args.text.now c.args.out.now.items c.loop-j.out.items c.loop-j.j c.loop-j.place c.loop-j.invariant

pub returns : goal.returns
returns c = ahead_front c.args.columns.now c.args.text.now c.args.out.now.items c.loop-j.out.items c.loop-j.j c.loop-j.place c.loop-j.invariant

pub returns-then-j-columns : goal.returns-then-j-columns
returns-then-j-columns c =
    let columns = c.args.columns.now in
    let j = c.loop-j.j in
    let found = c.in-Some in
    let pushed : c.push.new.self.items ≡ c.loop-j.out.items ++ found.found.0 ∷ [] = search rules in
    let last : j + 1 ≡ length columns = search rules in
    let lf : get_or c.args.text.now found.found.1 0 ≡ 10 = search rules in
    rw pushed
    (ahead_last columns c.args.text.now c.args.out.now.items c.loop-j.out.items j c.loop-j.place found.found.1 _ _ found.found.0 last refl
    found.ensures.bounds found.ensures.number found.ensures.more lf c.loop-j.invariant)

pub loop-j-preserved : goal.loop-j-preserved
loop-j-preserved c =
    let columns = c.args.columns.now in
    let j = c.loop-j.j in
    let found = c.in-Some in
    let pushed : c.push.new.self.items ≡ c.loop-j.out.items ++ found.found.0 ∷ [] = search rules in
    let space : get_or c.args.text.now found.found.1 0 ≡ 32 = search rules in
    rw pushed
    (ahead_more columns c.args.text.now c.args.out.now.items c.loop-j.out.items j c.loop-j.place found.found.1 _ _ found.found.0 c.loop-j-test.true refl
    found.ensures.bounds found.ensures.number found.ensures.more space c.loop-j.invariant)
