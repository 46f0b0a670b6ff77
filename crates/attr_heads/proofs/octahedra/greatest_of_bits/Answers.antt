use Rattle.std.proofs.Common.{◌≡◌, ◌^◌, ◌*◌, ◌%◌, ◌<◌, arith}
use Rattle.std.proofs.lemmas.Nat.{one_shl, pow_below}
use Rattle.attr_heads.proofs.octahedra.greatest_of_bits.Goals as goal

pub overflow_sub-result : goal.overflow_sub-result
overflow_sub-result c =
    let is : (1 * 2 ^ c.args.k) % 2 ^ 32 ≡ 2 ^ c.args.k = one_shl c.args.k 32 (omega arith) in
    let least : 2 ^ 0 < 2 ^ c.args.k = pow_below 0 c.args.k c.requires.some in
    omega arith
