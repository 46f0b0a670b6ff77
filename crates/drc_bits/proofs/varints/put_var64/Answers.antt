use Rattle.std.proofs.Common.{◌<◌, ◌^◌, ◌/◌, ◌-◌, ◌+◌, arith}
use Rattle.arrayvec.specs.ArrayVec.{array_vec_len}
use Rattle.drc_bits.proofs.Groups.{weight_of, weight-less, spelling-more, spelling-last, spelling-shortest, varint-spelling}
use Rattle.drc_bits.proofs.varints.put_var64.Goals as goal

pub loop-left-preserved : goal.loop-left-preserved
loop-left-preserved c =
    let less : (c.loop-left.left / 128 < weight_of (10 - (array_vec_len c.loop-left.bytes + 1))) × (array_vec_len c.loop-left.bytes + 1 < 10) =
    weight-less 10 _ _ c.loop-left.invariant.1 c.loop-left.invariant.2 c.loop-left-test.true in
    rw (c.push.ensures.len, c.push.ensures.items)
    (spelling-more 10 _ _ _ _ c.loop-left.invariant.0 c.loop-left.invariant.2 c.loop-left-test.true, less.0, less.1)

pub returns-clause-spelling : goal.returns-clause-spelling
returns-clause-spelling c =
    rw c.push-2.ensures.items (spelling-last 10 _ _ _ _ c.loop-left.invariant.0 c.loop-left.invariant.2 c.loop-left-test.false)

pub returns-clause-again : goal.returns-clause-again
returns-clause-again c rest = rw (returns-clause-spelling c) (varint-spelling 9 (2 ^ 64) c.args.v rest (omega arith) (omega arith))

pub returns-clause-shortest : goal.returns-clause-shortest
returns-clause-shortest c bytes n are_bytes is = rw (returns-clause-spelling c) (spelling-shortest 10 (2 ^ 64) c.args.v n bytes are_bytes is)
