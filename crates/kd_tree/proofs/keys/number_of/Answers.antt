use Rattle.std.proofs.Common.{◌≤◌, length, take, arith}
use Rattle.std.proofs.lemmas.List.{length-take}
use Rattle.kd_tree.proofs.Bits.{number-room, number-step}
use Rattle.kd_tree.proofs.keys.number_of.Goals as goal

pub with_bit-number-requires : goal.with_bit-number-requires
with_bit-number-requires c =
    let few : length (take c.loop-bit.bit-index c.args.bits.now) ≤ 63 = omega (arith, length-take c.loop-bit.bit-index c.args.bits.now) in
    let room = number-room 63 (take c.loop-bit.bit-index c.args.bits.now) few in
    omega (arith, room, c.loop-bit.invariant)

pub loop-bit-preserved : goal.loop-bit-preserved
loop-bit-preserved c =
    number-step c.args.bits.now c.loop-bit.bit-index c.loop-bit.number c.with_bit-number.result c.loop-bit-test.true c.loop-bit.invariant c.with_bit-number.ensures
