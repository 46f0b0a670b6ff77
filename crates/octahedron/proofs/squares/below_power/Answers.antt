use Rattle.std.proofs.Common.{◌≡◌, ◌^◌, ◌*◌, ◌%◌, ◌<◌, ◌≤◌, arith}
use Rattle.std.proofs.lemmas.Int.{ints}
use Rattle.std.proofs.lemmas.Nat.{one_shl, pow_below}
use Rattle.std.proofs.Math.Nat.{pow-le-pow_right}
use Rattle.octahedron.proofs.squares.below_power.Goals as goal

pub returns-clause-some : goal.returns-clause-some
returns-clause-some c =
    let is : (1 * 2 ^ c.args.k) % 2 ^ 32 ≡ 2 ^ c.args.k = one_shl c.args.k 32 (omega arith) in
    let least : 2 ^ 0 < 2 ^ c.args.k = pow_below 0 c.args.k c.requires.some in
    let most : 2 ^ c.args.k < 2 ^ 30 = pow_below c.args.k 30 c.requires.few in
    omega (arith, ints)

pub returns-clause-small : goal.returns-clause-small
returns-clause-small c =
    let is : (1 * 2 ^ c.args.k) % 2 ^ 32 ≡ 2 ^ c.args.k = one_shl c.args.k 32 (omega arith) in
    let least : 2 ^ 0 < 2 ^ c.args.k = pow_below 0 c.args.k c.requires.some in
    let most : 2 ^ c.args.k ≤ 2 ^ 29 = pow-le-pow_right {n = 2} (omega arith) {i = c.args.k} {j = 29} (omega arith) in
    omega (arith, ints)
