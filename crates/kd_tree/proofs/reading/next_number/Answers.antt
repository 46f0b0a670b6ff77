use Rattle.std.proofs.Common.{◌≤◌, length, arith}
use Rattle.rans_binary.specs.Blocks.{first_bits}
use Rattle.rans_binary.proofs.BitNumbers.{length-first_bits}
use Rattle.kd_tree.proofs.Bits.{number-room}
use Rattle.kd_tree.proofs.reading.next_number.Goals as goal

pub overflow_cast-result : goal.overflow_cast-result
overflow_cast-result c =
    let few : length (first_bits c.args.bits c.args.block.now) ≤ 32 = omega (arith, length-first_bits c.args.bits c.args.block.now, c.requires) in
    let room = number-room 32 (first_bits c.args.bits c.args.block.now) few in
    omega (arith, room, c.number_after.ensures.number)
