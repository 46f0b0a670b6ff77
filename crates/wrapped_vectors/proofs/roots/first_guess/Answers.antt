use Rattle.std.proofs.Common.{◌≡◌, ◌*◌, ◌/◌, ◌+◌, ◌%◌, ◌^◌, arith}
use Rattle.std.proofs.lemmas.Nat.{one_shl}
use Rattle.std.proofs.Math.Nat.{pow-le-pow_right}
use Rattle.wrapped_vectors.proofs.Guesses.{guess-above}
use Rattle.wrapped_vectors.proofs.roots.first_guess.Goals as goal

pub returns-clause-above : goal.returns-clause-above
returns-clause-above c =
    let is : (1 * 2 ^ (c.ilog2.result / 2 + 1)) % 2 ^ 64 ≡ 2 ^ (c.ilog2.result / 2 + 1) = one_shl (c.ilog2.result / 2 + 1) 64 (omega (arith, c.ilog2.ensures.bound)) in
    rw is (guess-above c.args.x c.ilog2.result c.ilog2.ensures.next_power_gt)

pub returns-clause-small : goal.returns-clause-small
returns-clause-small c =
    let is : (1 * 2 ^ (c.ilog2.result / 2 + 1)) % 2 ^ 64 ≡ 2 ^ (c.ilog2.result / 2 + 1) = one_shl (c.ilog2.result / 2 + 1) 64 (omega (arith, c.ilog2.ensures.bound)) in
    rw is (pow-le-pow_right {n = 2} (omega arith) {i = c.ilog2.result / 2 + 1} {j = 32} (omega (arith, c.ilog2.ensures.bound)))
