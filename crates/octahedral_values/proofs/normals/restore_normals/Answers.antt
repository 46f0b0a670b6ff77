use Rattle.std.proofs.Common.{◌≡◌, ◌∙◌, ◌+◌, ◌*◌, ◌%◌, ◌<◌, length, sym, ap, arith, subst}
use Rattle.std.proofs.Math.Numerals.{add-one}
use Rattle.std.proofs.lemmas.List.{get_or_default}
use Rattle.octahedron.specs.declared.points.Point.{Point}
use Rattle.octahedron.specs.Square.{IsValue}
use Rattle.octahedron.specs.Pairs.{pairs_of}
use Rattle.octahedron.proofs.Listed.{pair-is, pairs-set, length-pairs, item-behind}
use Rattle.octahedral_values.specs.Steps.{geometric_normal}
use Rattle.octahedral_values.proofs.Whole.{restored-whole, coordinates-values}
use Rattle.octahedral_values.proofs.Restoring.{restores-more, restores-all, restores-within}
use Rattle.octahedral_values.proofs.normals.restore_normals.Goals as goal

pub restored_value-requires-clause-correction : goal.restored_value-requires-clause-correction
restored_value-requires-clause-correction c =
    let there : c.loop-e.e < length (pairs_of c.args.values.now) = omega (arith, length-pairs c.args.values.now) in
    let inside : 2 * c.loop-e.e + 1 < length c.loop-e.values = omega arith in
    let is = c.pair_at-correction.ensures ∙ sym (pair-is c.loop-e.values c.loop-e.e c.pair_at-correction.result inside)
    ∙ item-behind (pairs_of c.loop-e.values) (pairs_of c.args.values.now) c.loop-e.e c.pair_at-correction.result c.loop-e.invariant.rest in
    subst (λ (p : Point). IsValue c.args.square.centre p) (sym is) (c.requires.corrections c.loop-e.e c.pair_at-correction.result there)

pub loop-e-preserved : goal.loop-e-preserved
loop-e-preserved c =
    let inside : 2 * c.loop-e.e + 1 < length c.loop-e.values = omega arith in
    let there : c.loop-e.e < length (pairs_of c.loop-e.values) = omega (arith, length-pairs c.loop-e.values) in
    let more : c.loop-e.e < length c.args.flips.now = omega arith in
    let item = c.pair_at-correction.ensures ∙ sym (pair-is c.loop-e.values c.loop-e.e c.pair_at-correction.result inside) in
    rw (add-one c.loop-e.e) (restores-more c.args.square.centre c.args.sums.now c.args.flips.now (pairs_of c.args.values.now) (pairs_of c.loop-e.values)
    (pairs_of c.put_pair.new.integers) c.loop-e.e _ c.predicted_value-predicted.result c.pair_at-correction.result c.restored_value.result c.loop-e.invariant there more (get_or_default c.args.flips.now c.loop-e.e _ _ more)
    c.predicted_value-predicted.ensures.value item c.restored_value.ensures.value c.restored_value.ensures.within
    (ap pairs_of c.put_pair.ensures ∙ pairs-set c.loop-e.values c.loop-e.e c.restored_value.result inside))

pub returns-clause-values : goal.returns-clause-values
returns-clause-values c =
    let even : length c.loop-e.values % 2 ≡ 0 = omega arith in
    restored-whole (geometric_normal c.args.square.centre c.args.sums.now) c.args.square.centre c.args.flips.now c.args.values.now c.loop-e.values even
    (restores-all c.args.square.centre c.args.sums.now c.args.flips.now (pairs_of c.args.values.now) (pairs_of c.loop-e.values) c.loop-e.e c.loop-e.invariant
    (omega (arith, length-pairs c.loop-e.values)))

pub returns-clause-within : goal.returns-clause-within
returns-clause-within c =
    let even : length c.loop-e.values % 2 ≡ 0 = omega arith in
    coordinates-values c.args.square.centre c.loop-e.values even
    (restores-within c.args.square.centre c.args.sums.now c.args.flips.now (pairs_of c.args.values.now) (pairs_of c.loop-e.values) c.loop-e.e c.loop-e.invariant
    (omega (arith, length-pairs c.loop-e.values)))
