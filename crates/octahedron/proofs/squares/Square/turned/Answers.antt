use Rattle.std.proofs.Common.{◌≡◌, ◌∙◌, arith}
use Rattle.std.proofs.lemmas.Int.{ints}
use Rattle.octahedron.specs.Corrections.{turn}
use Rattle.octahedron.proofs.Flipping.{point-same}
use Rattle.octahedron.proofs.Turning.{turn_inside}
use Rattle.octahedron.proofs.squares.Square.turned.Goals as goal

pub returns-then-quarters-eq1-clause-inside : goal.returns-then-quarters-eq1-clause-inside
returns-then-quarters-eq1-clause-inside c =
    let is : c.point_at.result ≡ turn 1 c.args.p = c.point_at.ensures ∙ point-same _ _ _ _ (omega (arith, ints)) (omega (arith, ints)) in
    turn_inside c.args.self.centre 1 c.args.p c.point_at.result c.requires.inside is

pub returns-then-quarters-eq2-clause-value : goal.returns-then-quarters-eq2-clause-value
returns-then-quarters-eq2-clause-value c =
    let two : c.args.quarters ≡ 2 = omega arith in
    rw two (c.point_at-then-quarters-eq2.ensures ∙ point-same _ _ _ _ (omega (arith, ints)) (omega (arith, ints)))

pub returns-then-quarters-eq2-clause-inside : goal.returns-then-quarters-eq2-clause-inside
returns-then-quarters-eq2-clause-inside c =
    let is : c.point_at-then-quarters-eq2.result ≡ turn 2 c.args.p = c.point_at-then-quarters-eq2.ensures ∙ point-same _ _ _ _ (omega (arith, ints)) (omega (arith, ints)) in
    turn_inside c.args.self.centre 2 c.args.p c.point_at-then-quarters-eq2.result c.requires.inside is

pub returns-else-quarters-eq2-clause-inside : goal.returns-else-quarters-eq2-clause-inside
returns-else-quarters-eq2-clause-inside c =
    let is : c.point_at-else-quarters-eq2.result ≡ turn 3 c.args.p = c.point_at-else-quarters-eq2.ensures ∙ point-same _ _ _ _ (omega (arith, ints)) (omega (arith, ints)) in
    turn_inside c.args.self.centre 3 c.args.p c.point_at-else-quarters-eq2.result c.requires.inside is
