use Rattle.std.proofs.Common.{◌≡◌, ◌∙◌, ◌%◌, [], length, sym, ap, arith}
use Rattle.octahedron.specs.Pairs.{pairs_of}
use Rattle.octahedral_values.specs.Steps.{difference}
use Rattle.octahedral_values.proofs.Whole.{restored-whole, coordinates-values}
use Rattle.octahedral_values.proofs.Predicted.{given, restored-difference}
use Rattle.octahedral_values.proofs.differences.restore_differences.Goals as goal

pub returns-clause-values : goal.returns-clause-values
returns-clause-values c =
    let even : length c.restore_differences.new.integers % 2 ≡ 0 = omega (arith, c.restore_differences.auto.integers, c.requires.even) in
    restored-whole difference c.args.square.centre [] c.args.values.now c.restore_differences.new.integers even
    (restored-difference c.args.square.centre [] [] (pairs_of c.args.values.now) ∙ sym (ap given c.restore_differences.ensures.values))

pub returns-clause-within : goal.returns-clause-within
returns-clause-within c =
    let even : length c.restore_differences.new.integers % 2 ≡ 0 = omega (arith, c.restore_differences.auto.integers, c.requires.even) in
    coordinates-values c.args.square.centre c.restore_differences.new.integers even c.restore_differences.ensures.within
