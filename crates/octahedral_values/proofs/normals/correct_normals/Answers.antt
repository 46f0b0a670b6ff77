use Rattle.std.proofs.Common.{◌≡◌, ◌∙◌, ◌+◌, ◌*◌, ◌%◌, ◌<◌, length, refl, sym, ap, arith, subst}
use Rattle.std.proofs.Math.Numerals.{add-one}
use Rattle.octahedron.specs.declared.points.Point.{Point}
use Rattle.octahedron.specs.Square.{IsValue}
use Rattle.octahedron.specs.Pairs.{pairs_of}
use Rattle.octahedron.proofs.Listed.{pairs-set, length-pairs}
use Rattle.octahedral_values.specs.Steps.{geometric_normal}
use Rattle.octahedral_values.proofs.Whole.{restored-whole, corrected-whole, coordinates-values}
use Rattle.octahedral_values.proofs.Correcting.{corrects-more, corrects-all, corrects-within, chosen-all, value-is}
use Rattle.octahedral_values.proofs.Lawful.{points-restore, normals-in}
use Rattle.octahedral_values.proofs.normals.correct_normals.Goals as goal

pub chosen-flip-requires : goal.chosen-flip-requires
chosen-flip-requires c =
    let there : c.loop-e.e < length (pairs_of c.args.values.now) = omega (arith, length-pairs c.args.values.now) in
    let inside : 2 * c.loop-e.e + 1 < length c.loop-e.values = omega arith in
    let value = value-is c.args.square.centre c.args.sums.now c.loop-e.flips c.args.values.now c.loop-e.values c.loop-e.e c.pair_at-value.result c.loop-e.invariant inside c.pair_at-value.ensures in
    subst (λ (p : Point). IsValue c.args.square.centre p) (sym value) (c.requires.values c.loop-e.e c.pair_at-value.result there)

pub loop-e-preserved : goal.loop-e-preserved
loop-e-preserved c =
    let inside : 2 * c.loop-e.e + 1 < length c.loop-e.values = omega arith in
    let there : c.loop-e.e < length (pairs_of c.loop-e.values) = omega (arith, length-pairs c.loop-e.values) in
    let more : c.loop-e.e < length c.loop-e.flips = omega arith in
    let value = value-is c.args.square.centre c.args.sums.now c.loop-e.flips c.args.values.now c.loop-e.values c.loop-e.e c.pair_at-value.result c.loop-e.invariant inside c.pair_at-value.ensures in
    rw (add-one c.loop-e.e) (corrects-more c.args.square.centre c.args.sums.now c.loop-e.flips _ (pairs_of c.args.values.now) (pairs_of c.loop-e.values)
    (pairs_of c.put_pair.new.integers) c.loop-e.e c.chosen-flip.result.0 c.chosen-flip.result.1 c.pair_at-value.result c.loop-e.invariant there more value
    c.chosen-flip.ensures.flip c.chosen-flip.ensures.correction c.chosen-flip.ensures.within refl
    (ap pairs_of c.put_pair.ensures ∙ pairs-set c.loop-e.values c.loop-e.e c.chosen-flip.result.1 inside))

pub returns-clause-flips : goal.returns-clause-flips
returns-clause-flips c =
    chosen-all c.args.square.centre c.args.sums.now c.loop-e.flips (pairs_of c.args.values.now) (pairs_of c.loop-e.values) c.loop-e.e c.loop-e.invariant
    (omega (arith, length-pairs c.args.values.now)) (omega (arith, length-pairs c.args.values.now))

pub returns-clause-corrections : goal.returns-clause-corrections
returns-clause-corrections c =
    let even : length c.loop-e.values % 2 ≡ 0 = omega arith in
    corrected-whole (geometric_normal c.args.square.centre c.args.sums.now) c.args.square.centre c.loop-e.flips c.args.values.now c.loop-e.values even
    (corrects-all c.args.square.centre c.args.sums.now c.loop-e.flips (pairs_of c.args.values.now) (pairs_of c.loop-e.values) c.loop-e.e c.loop-e.invariant
    (omega (arith, length-pairs c.args.values.now)) (omega (arith, length-pairs c.args.values.now)))

pub returns-clause-within : goal.returns-clause-within
returns-clause-within c =
    let even : length c.loop-e.values % 2 ≡ 0 = omega arith in
    coordinates-values c.args.square.centre c.loop-e.values even
    (corrects-within c.args.square.centre c.args.sums.now c.loop-e.flips (pairs_of c.args.values.now) (pairs_of c.loop-e.values) c.loop-e.e c.loop-e.invariant
    (omega (arith, length-pairs c.args.values.now)))

pub returns-clause-restores : goal.returns-clause-restores
returns-clause-restores c canonical =
    let even : length c.args.values.now % 2 ≡ 0 = omega arith in
    restored-whole (geometric_normal c.args.square.centre c.args.sums.now) c.args.square.centre c.loop-e.flips c.loop-e.values c.args.values.now even
    (points-restore (geometric_normal c.args.square.centre c.args.sums.now) c.args.square.centre c.loop-e.flips (pairs_of c.args.values.now) (pairs_of c.loop-e.values)
    c.args.square.some (normals-in c.args.square.centre c.args.sums.now c.args.square.some) c.requires.values canonical
    (corrects-all c.args.square.centre c.args.sums.now c.loop-e.flips (pairs_of c.args.values.now) (pairs_of c.loop-e.values) c.loop-e.e c.loop-e.invariant
    (omega (arith, length-pairs c.args.values.now)) (omega (arith, length-pairs c.args.values.now))))
