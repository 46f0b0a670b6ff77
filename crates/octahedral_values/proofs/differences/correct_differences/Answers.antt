use Rattle.std.proofs.Common.{◌≡◌, ◌∙◌, ◌%◌, [], length, sym, ap, arith}
use Rattle.octahedron.specs.Pairs.{pairs_of}
use Rattle.octahedral_values.specs.Steps.{difference}
use Rattle.octahedral_values.proofs.Whole.{restored-whole, corrected-whole, coordinates-values}
use Rattle.octahedral_values.proofs.Predicted.{given, restored-difference, corrected-difference}
use Rattle.octahedral_values.proofs.differences.correct_differences.Goals as goal

pub returns-clause-corrections : goal.returns-clause-corrections
returns-clause-corrections c =
    let even : length c.correct_differences.new.integers % 2 ≡ 0 = omega (arith, c.correct_differences.auto.integers, c.requires.even) in
    corrected-whole difference c.args.square.centre [] c.args.values.now c.correct_differences.new.integers even
    (corrected-difference c.args.square.centre [] [] (pairs_of c.args.values.now) ∙ sym (ap given c.correct_differences.ensures.corrections))

pub returns-clause-within : goal.returns-clause-within
returns-clause-within c =
    let even : length c.correct_differences.new.integers % 2 ≡ 0 = omega (arith, c.correct_differences.auto.integers, c.requires.even) in
    coordinates-values c.args.square.centre c.correct_differences.new.integers even c.correct_differences.ensures.within

pub returns-clause-restores : goal.returns-clause-restores
returns-clause-restores c canonical =
    restored-whole difference c.args.square.centre [] c.correct_differences.new.integers c.args.values.now c.requires.even
    (restored-difference c.args.square.centre [] [] (pairs_of c.correct_differences.new.integers) ∙ ap given (c.correct_differences.ensures.restores canonical))
