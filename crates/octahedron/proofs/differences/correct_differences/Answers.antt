use Rattle.std.proofs.Common.{◌≡◌, ◌∙◌, [], ◌+◌, ◌-◌, ◌*◌, ◌<◌, ◌≤◌, length, sym, ap, subst, arith, ℕ}
use Rattle.std.proofs.lemmas.List.Elements.{All-nil}
use Rattle.octahedron.specs.declared.points.Point.{Point}
use Rattle.octahedron.specs.Square.{IsValue}
use Rattle.octahedron.specs.Restored.{restored_values, value_before}
use Rattle.octahedron.specs.Pairs.{pairs_of}
use Rattle.octahedron.proofs.Behind.{behind, before-in}
use Rattle.octahedron.proofs.Listed.{pairs-set, length-pairs}
use Rattle.octahedron.proofs.Correcting.{Corrects, corrects-none, corrects-more, value-is, value_before-is, before_inside}
use Rattle.octahedron.proofs.differences.correct_differences.Goals as goal

pub loop-e-init : goal.loop-e-init
loop-e-init c = corrects-none c.args.square.centre (pairs_of c.args.integers.now) _ (omega (arith, length-pairs c.args.integers.now))

pub correction_of-requires-clause-predicted : goal.correction_of-requires-clause-predicted
correction_of-requires-clause-predicted c =
    let before = value_before-is c.args.square.centre c.args.integers.now c.loop-e.integers c.loop-e.e c.point_before-before.result c.loop-e.invariant
    c.loop-e-test.true (omega arith) c.point_before-before.ensures in
    before_inside c.args.square.centre (pairs_of c.args.integers.now) (c.loop-e.e - 1) c.point_before-before.result c.args.square.some c.requires before

pub correction_of-requires-clause-value : goal.correction_of-requires-clause-value
correction_of-requires-clause-value c =
    let there : c.loop-e.e - 1 < length (pairs_of c.args.integers.now) = omega (arith, length-pairs c.args.integers.now) in
    let value = value-is c.args.square.centre c.args.integers.now c.loop-e.integers c.loop-e.e c.pair_at-value.result c.loop-e.invariant
    c.loop-e-test.true (omega arith) c.pair_at-value.ensures in
    subst (λ (p : Point). IsValue c.args.square.centre p) (sym value) (c.requires (c.loop-e.e - 1) c.pair_at-value.result there)

pub loop-e-preserved : goal.loop-e-preserved
loop-e-preserved c =
    let has : c.loop-e.e ≤ length (pairs_of c.args.integers.now) = omega (arith, length-pairs c.args.integers.now) in
    let inside : 2 * (c.loop-e.e - 1) + 1 < length c.loop-e.integers = omega arith in
    let value = value-is c.args.square.centre c.args.integers.now c.loop-e.integers c.loop-e.e c.pair_at-value.result c.loop-e.invariant
    c.loop-e-test.true (omega arith) c.pair_at-value.ensures in
    let before = value_before-is c.args.square.centre c.args.integers.now c.loop-e.integers c.loop-e.e c.point_before-before.result c.loop-e.invariant
    c.loop-e-test.true (omega arith) c.point_before-before.ensures in
    corrects-more c.args.square.centre (pairs_of c.args.integers.now) (pairs_of c.loop-e.integers) (pairs_of c.put_pair.new.integers) c.loop-e.e
    c.point_before-before.result c.pair_at-value.result c.correction_of.result c.loop-e.invariant c.loop-e-test.true has value before
    c.correction_of.ensures.correction c.correction_of.ensures.within
    (ap pairs_of c.put_pair.ensures ∙ pairs-set c.loop-e.integers (c.loop-e.e - 1) c.correction_of.result inside)

pub returns-clause-restores : goal.returns-clause-restores
returns-clause-restores c canonical =
    let none : c.loop-e.e ≡ 0 = omega (arith, c.loop-e-test.false) in
    let done = subst (λ (n : ℕ). Corrects c.args.square.centre (pairs_of c.args.integers.now) (pairs_of c.loop-e.integers) n) none c.loop-e.invariant in
    ap (restored_values value_before c.args.square.centre) done.back
    ∙ behind value_before c.args.square.centre [] (pairs_of c.args.integers.now) c.args.square.some (before-in c.args.square.centre c.args.square.some)
    (All-nil (IsValue c.args.square.centre)) c.requires canonical
