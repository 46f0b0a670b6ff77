use Rattle.std.proofs.Common.{◌<◌, ◌≤◌, length, sym, subst, arith}
use Rattle.std.proofs.lemmas.List.{take_all}
use Rattle.attr_heads.specs.declared.heads.Head.{Head}
use Rattle.attr_section.specs.Written.{end_bytes, HasEnd, EndSpelled}
use Rattle.attr_section.proofs.Loops.{appended-more, all-more}
use Rattle.attr_section.proofs.quant_writing.put_ends.Goals as goal

pub put_end-requires : goal.put_end-requires
put_end-requires c =
    let within : c.loop-head.head-index < length c.args.heads.now = omega arith in
    subst (λ (g : Head). HasEnd g g.octa) (sym c.head-item.is) (c.requires c.loop-head.head-index c.head-item.result within)

pub loop-head-preserved : goal.loop-head-preserved
loop-head-preserved c =
    let within : c.loop-head.head-index < length c.args.heads.now = omega arith in (
      appended-more end_bytes c.args.heads.now c.loop-head.head-index c.head-item.result c.args.out.now.items c.loop-head.out.items c.put_end.new.out.items within c.head-item.is c.loop-head.invariant.0 c.in_ok-put_end.ensures.bytes,
      all-more EndSpelled c.args.heads.now c.loop-head.head-index c.head-item.result within c.head-item.is c.loop-head.invariant.1 c.in_ok-put_end.ensures.again,
    )

pub returns-clause-bytes : goal.returns-clause-bytes
returns-clause-bytes c =
    let done : length c.args.heads.now ≤ c.loop-head.head-index = omega arith in rw (take_all c.loop-head.head-index c.args.heads.now done) at c.loop-head.invariant.0

pub returns-clause-again : goal.returns-clause-again
returns-clause-again c =
    let done : length c.args.heads.now ≤ c.loop-head.head-index = omega arith in rw (take_all c.loop-head.head-index c.args.heads.now done) at c.loop-head.invariant.1
