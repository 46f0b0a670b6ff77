use Rattle.std.proofs.Common.{◌∙◌, ◌+◌, ◌*◌, ◌<◌, length, sym, ap, arith, subst}
use Rattle.std.proofs.Math.Numerals.{add-one}
use Rattle.octahedron.specs.declared.points.Point.{Point}
use Rattle.octahedron.specs.Square.{IsValue}
use Rattle.octahedron.specs.Pairs.{pairs_of}
use Rattle.octahedron.proofs.Listed.{pair-is, pairs-set, length-pairs, item-behind}
use Rattle.octahedron.proofs.Restoring.{restores-more, restores-all, restores-within}
use Rattle.octahedron.proofs.differences.restore_differences.Goals as goal

pub restored_value-before-requires-clause-correction : goal.restored_value-before-requires-clause-correction
restored_value-before-requires-clause-correction c =
    let there : c.loop-e.e < length (pairs_of c.args.integers.now) = omega (arith, length-pairs c.args.integers.now) in
    let inside : 2 * c.loop-e.e + 1 < length c.loop-e.integers = omega arith in
    let is = c.pair_at-correction.ensures ∙ sym (pair-is c.loop-e.integers c.loop-e.e c.pair_at-correction.result inside)
    ∙ item-behind (pairs_of c.loop-e.integers) (pairs_of c.args.integers.now) c.loop-e.e c.pair_at-correction.result c.loop-e.invariant.rest in
    subst (λ (p : Point). IsValue c.args.square.centre p) (sym is) (c.requires c.loop-e.e c.pair_at-correction.result there)

pub loop-e-preserved : goal.loop-e-preserved
loop-e-preserved c =
    let inside : 2 * c.loop-e.e + 1 < length c.loop-e.integers = omega arith in
    let there : c.loop-e.e < length (pairs_of c.loop-e.integers) = omega (arith, length-pairs c.loop-e.integers) in
    let item = c.pair_at-correction.ensures ∙ sym (pair-is c.loop-e.integers c.loop-e.e c.pair_at-correction.result inside) in
    rw (add-one c.loop-e.e) (restores-more c.args.square.centre (pairs_of c.args.integers.now) (pairs_of c.loop-e.integers) (pairs_of c.put_pair.new.integers) c.loop-e.e
    c.loop-e.before c.pair_at-correction.result c.restored_value-before.result c.loop-e.invariant there item
    c.restored_value-before.ensures.value c.restored_value-before.ensures.within
    (ap pairs_of c.put_pair.ensures ∙ pairs-set c.loop-e.integers c.loop-e.e c.restored_value-before.result inside))

pub returns-clause-values : goal.returns-clause-values
returns-clause-values c =
    restores-all c.args.square.centre (pairs_of c.args.integers.now) (pairs_of c.loop-e.integers) c.loop-e.e c.loop-e.before c.loop-e.invariant
    (omega (arith, length-pairs c.loop-e.integers))

pub returns-clause-within : goal.returns-clause-within
returns-clause-within c =
    restores-within c.args.square.centre (pairs_of c.args.integers.now) (pairs_of c.loop-e.integers) c.loop-e.e c.loop-e.before c.loop-e.invariant
    (omega (arith, length-pairs c.loop-e.integers))
