use Rattle.std.proofs.Common.{◌<◌, ◌≤◌, ◌+◌, ◌/◌, arith, rules}
use Rattle.wrapped_vectors.specs.Roots.{root}
use Rattle.wrapped_vectors.proofs.Rooted.{IsRoot-root}
use Rattle.wrapped_vectors.proofs.Guesses.{root-some, quotient-small, mean-above}
use Rattle.wrapped_vectors.proofs.roots.next_guess.Goals as goal

pub nonzero_div-result : goal.nonzero_div-result
nonzero_div-result c = let some : 0 < root c.args.x = root-some c.args.x c.requires.some in omega arith

pub overflow_add-result : goal.overflow_add-result
overflow_add-result c =
    let some : 0 < root c.args.x = root-some c.args.x c.requires.some in
    let small : c.args.x / c.args.r ≤ c.args.r + 2 = quotient-small c.args.x c.args.r (omega arith) c.requires.above in
    search rules

pub returns-clause-above : goal.returns-clause-above
returns-clause-above c =
    let some : 0 < root c.args.x = root-some c.args.x c.requires.some in
    mean-above c.args.x c.args.r (root c.args.x) (omega arith) c.requires.above (IsRoot-root c.args.x).at_most
