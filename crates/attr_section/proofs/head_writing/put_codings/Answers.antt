use Rattle.std.proofs.Common.{◌<◌, ◌≤◌, length, arith}
use Rattle.std.proofs.lemmas.List.{take_all}
use Rattle.attr_heads.specs.Codings.{coding_byte}
use Rattle.attr_section.proofs.Loops.{mapped-more}
use Rattle.attr_section.proofs.head_writing.put_codings.Goals as goal

pub loop-head-preserved : goal.loop-head-preserved
loop-head-preserved c =
    let within : c.loop-head.head-index < length c.args.heads.now = omega arith in
    mapped-more coding_byte c.args.heads.now c.loop-head.head-index c.head-item.result c.coding_byte.result c.args.out.now.items c.loop-head.out.items c.push.new.self.items
    within c.head-item.is c.loop-head.invariant c.in_ok-push.ensures.items c.coding_byte.ensures

pub returns : goal.returns
returns c =
    let done : length c.args.heads.now ≤ c.loop-head.head-index = omega arith in rw (take_all c.loop-head.head-index c.args.heads.now done) at c.loop-head.invariant
