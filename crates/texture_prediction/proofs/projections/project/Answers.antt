use Rattle.std.proofs.Common.{rules, ◌<◌, ◌∙◌, sym, arith, FitsSigned}
use Rattle.std.specs.Int.{w64}
use Rattle.std.proofs.lemmas.Int.{to_z-of_z}
use Rattle.texture_prediction.proofs.Projecting.{divides, greatest-some, projection-at, projection-short, projection-wide, projection-far}
use Rattle.texture_prediction.proofs.projections.project.Goals as goal

pub is_far-requires : goal.is_far-requires
is_far-requires c =
    let some : 0 < c.squared-square.result = omega arith in
    greatest-some c.apart-d.result (rw (sym c.squared-square.ensures) some)

pub returns-then-square-eq0-clause-projection : goal.returns-then-square-eq0-clause-projection
returns-then-square-eq0-clause-projection c =
    projection-short c.args.tip c.args.n c.args.p c.args.a c.args.b c.apart-d.result c.squared-square.result c.apart-d.ensures c.squared-square.ensures c.if-square-eq0.true

pub returns-then-is_wide-clause-projection : goal.returns-then-is_wide-clause-projection
returns-then-is_wide-clause-projection c =
    let fits : FitsSigned w64 c.dot-along.result = search rules in
    projection-wide c.args.tip c.args.n c.args.p c.args.a c.args.b c.apart-d.result c.apart.result c.squared-square.result c.dot-along.result
    c.apart-d.ensures c.apart.ensures c.squared-square.ensures c.dot-along.ensures c.if-square-eq0.false (sym c.is_wide.ensures ∙ c.if-is_wide.true)

pub returns-then-is_far-clause-projection : goal.returns-then-is_far-clause-projection
returns-then-is_far-clause-projection c =
    let fits : FitsSigned w64 c.dot-along.result = search rules in
    let is = simp to_z-of_z at c.is_far.ensures in
    projection-far c.args.tip c.args.n c.args.p c.args.a c.args.b c.apart-d.result c.apart.result c.squared-square.result c.dot-along.result
    c.apart-d.ensures c.apart.ensures c.squared-square.ensures c.dot-along.ensures c.if-square-eq0.false (sym c.is_wide.ensures ∙ c.if-is_wide.false)
    (sym is ∙ c.if-is_far.true)

pub returns-clause-projection : goal.returns-clause-projection
returns-clause-projection c =
    let fits : FitsSigned w64 c.dot-along.result = search rules in
    let is = simp to_z-of_z at c.is_far.ensures in
    let both = simp to_z-of_z at c.both.ensures in
    projection-at c.args.tip c.args.n c.args.p c.args.a c.args.b c.apart-d.result c.apart.result c.squared-square.result c.dot-along.result c.both.result
    c.apart-d.ensures c.apart.ensures c.squared-square.ensures c.dot-along.ensures c.if-square-eq0.false (sym c.is_wide.ensures ∙ c.if-is_wide.false)
    (sym is ∙ c.if-is_far.false) both

pub returns-clause-divides : goal.returns-clause-divides
returns-clause-divides c =
    let fits : FitsSigned w64 c.dot-along.result = search rules in
    let both = simp to_z-of_z at c.both.ensures in
    divides c.args.tip c.args.n c.apart-d.result c.dot-along.result c.squared-square.result c.args.a c.args.b c.both.result
    c.squared-square.ensures c.if-square-eq0.false both
