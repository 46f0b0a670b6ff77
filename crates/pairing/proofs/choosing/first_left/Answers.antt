-- One side further along the class.
use Rattle.std.proofs.Common.{◌<◌, length, arith}
use Rattle.std.proofs.lemmas.List.{get_or_read}
use Rattle.pairing.proofs.Choices.{IsAlong, along_more}
use Rattle.pairing.proofs.choosing.first_left.Goals as goal

pub loop-at-preserved : goal.loop-at-preserved
loop-at-preserved c =
    let p = c.is_passed.ensures.passed c.loop-at-test.true in
    let L = c.requires.linked in
    let e = L.each in
    let k = c.requires.classes in
    let p0 = p.0 in
    let inside : c.loop-at.at < length c.args.sides.now.nexts.items = omega arith in
    let read = get_or_read c.args.sides.now.nexts.items c.loop-at.at c.index-at.result.now inside c.index-at.ensures 0 in
    let A : IsAlong c.args.sides.now.classes.items c.args.sides.now.thirds.items c.args.taken.now c.args.sides.now.nexts.items c.args.from c.args.skip c.loop-at.at = record {
      linked = L;
      inside = omega arith;
      here = p.1;
      later = c.loop-at.invariant.later;
      same = c.loop-at.invariant.same;
      passed = c.loop-at.invariant.passed;
    } in
    let W = along_more A in
    rw read (record { later = W.later; same = W.same; passed = W.passed })
