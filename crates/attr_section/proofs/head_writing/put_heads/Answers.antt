use Rattle.std.proofs.Common.{◌<◌, ◌≤◌, length, sym, subst, arith}
use Rattle.std.proofs.lemmas.List.{take_all}
use Rattle.drc_bits.specs.Spells.{Spells}
use Rattle.attr_heads.specs.HeadItems.{head_at}
use Rattle.attr_heads.specs.HeadItems.{head_bytes, stream_head, HeadPasses}
use Rattle.attr_section.proofs.Loops.{appended-more, all-more}
use Rattle.attr_section.proofs.head_writing.put_heads.Goals as goal

pub loop-head-preserved : goal.loop-head-preserved
loop-head-preserved c =
    let within : c.loop-head.head-index < length c.args.heads.now = omega arith in
    let passes : HeadPasses c.head-item.result = subst HeadPasses (sym c.head-item.is) (c.requires c.loop-head.head-index c.head-item.result within) in (
      appended-more head_bytes c.args.heads.now c.loop-head.head-index c.head-item.result c.args.out.now.items c.loop-head.out.items c.put_bare_head.new.out.items within c.head-item.is c.loop-head.invariant.0 c.in_ok-put_bare_head.ensures.bytes,
      all-more (λ h. Spells head_at (head_bytes h) (stream_head h)) c.args.heads.now c.loop-head.head-index c.head-item.result within c.head-item.is c.loop-head.invariant.1 (c.in_ok-put_bare_head.ensures.again passes),
    )

pub returns-clause-bytes : goal.returns-clause-bytes
returns-clause-bytes c =
    let done : length c.args.heads.now ≤ c.loop-head.head-index = omega arith in rw (take_all c.loop-head.head-index c.args.heads.now done) at c.loop-head.invariant.0

pub returns-clause-again : goal.returns-clause-again
returns-clause-again c =
    let done : length c.args.heads.now ≤ c.loop-head.head-index = omega arith in rw (take_all c.loop-head.head-index c.args.heads.now done) at c.loop-head.invariant.1
