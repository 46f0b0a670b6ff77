use Rattle.std.proofs.Common.{◌≤◌, ◌++◌, length, sym, ap, ◌∙◌, arith, length-append}
use Rattle.std.proofs.lemmas.List.{append-nil}
use Rattle.rans_binary.specs.Blocks.{first_bits}
use Rattle.rans_binary.proofs.BitNumbers.{length-first_bits}
use Rattle.kd_tree.specs.Reading.{number_behind}
use Rattle.kd_tree.proofs.Bits.{block-step, block_number-step, number-room}
use Rattle.kd_tree.proofs.reading.number_after.Goals as goal

pub loop-init : goal.loop-init
loop-init c = record {
  number = c.number_of-number.ensures ∙ ap (number_behind 0) (sym (append-nil c.args.front.now));
  ahead = c.copy-ahead.ensures;
}

pub with_bit-number-requires : goal.with_bit-number-requires
with_bit-number-requires c =
    let bits = c.args.front.now ++ first_bits c.loop.counter c.args.block.now in
    let few : length bits ≤ 63 = omega (arith, length-append c.args.front.now (first_bits c.loop.counter c.args.block.now), length-first_bits c.loop.counter c.args.block.now, c.requires) in
    let room = number-room 63 bits few in
    omega (arith, room, c.loop.invariant.number)

pub loop-preserved : goal.loop-preserved
loop-preserved c = record {
  number = block_number-step c.loop.counter c.args.front.now c.args.block.now c.loop.ahead c.loop.number c.with_bit-number.result c.next-bit.result c.loop.invariant.number c.loop.invariant.ahead
      c.next-bit.ensures.bit c.with_bit-number.ensures;
  ahead = block-step c.loop.counter c.args.block.now c.loop.ahead c.next-bit.new.self c.loop.invariant.ahead c.next-bit.ensures.after;
}
