use Rattle.std.proofs.Common.{◌≡◌, ◌^◌, ◌*◌, ◌%◌, ◌<◌, ◌≤◌, arith}
use Rattle.std.proofs.lemmas.Nat.{one_shl, pow_below}
use Rattle.std.proofs.Math.Nat.{pow-le-pow_right}
use Rattle.attr_section.proofs.squared_reading.greatest_coordinate.Goals as goal

pub overflow_sub-result : goal.overflow_sub-result
overflow_sub-result c =
    let is : (1 * 2 ^ c.args.bits) % 2 ^ 32 ≡ 2 ^ c.args.bits = one_shl c.args.bits 32 (omega (arith, c.requires.few)) in
    let least : 2 ^ 1 < 2 ^ c.args.bits = pow_below 1 c.args.bits (omega (arith, c.requires.some)) in
    omega arith

pub returns-clause-small : goal.returns-clause-small
returns-clause-small c =
    let is : (1 * 2 ^ c.args.bits) % 2 ^ 32 ≡ 2 ^ c.args.bits = one_shl c.args.bits 32 (omega (arith, c.requires.few)) in
    let most : 2 ^ c.args.bits ≤ 2 ^ 30 = pow-le-pow_right {n = 2} (omega arith) {i = c.args.bits} {j = 30} c.requires.few in
    omega arith
