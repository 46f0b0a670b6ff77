use Rattle.std.proofs.Common.{◌+◌, ◌<◌, ap, ◌∙◌, arith}
use Rattle.std.proofs.lemmas.List.{length_push}
use Rattle.std.proofs.lemmas.List.Elements.{All-push}
use Rattle.std.proofs.lemmas.Result.{err_from_is_err_and}
use Rattle.drc_bits.specs.Reading.{many_at}
use Rattle.drc_bits.proofs.Many.{many_at-next, many_at-fault, many_at-end}
use Rattle.attr_heads.specs.HeadItems.{head_at}
use Rattle.attr_section.proofs.head_items.read_plain_heads.Goals as goal

pub returns-in_err-head-clause-item : goal.returns-in_err-head-clause-item
returns-in_err-head-clause-item c =
    let p = err_from_is_err_and c.from_residual.result c.from_residual.ensures.1 in
    rw (p.1, p.2) (many_at-fault head_at c.args.n c.loop-number._number c.loop-number.c c.loop-number.heads.items c.in_err-head.field-0.0 (many_at head_at c.args.n c.args.c.now) c.loop-number.invariant.0 (omega arith) c.in_err-head.ensures.item)

pub loop-number-preserved : goal.loop-number-preserved
loop-number-preserved c =
    rw c.in_ok-push.ensures.items (
      many_at-next head_at c.args.n c.loop-number._number c.loop-number.c c.read_bare_head.new.c c.loop-number.heads.items c.in_ok-head.head (many_at head_at c.args.n c.args.c.now) c.loop-number.invariant.0 (omega arith) c.in_ok-head.ensures.item,
      length_push c.loop-number.heads.items c.in_ok-head.head ∙ ap (λ n. n + 1) c.loop-number.invariant.1,
      All-push (λ h. 0 < h.comps) c.loop-number.heads.items c.in_ok-head.head c.loop-number.invariant.2 c.in_ok-head.ensures.some,
    )

pub returns-clause-item : goal.returns-clause-item
returns-clause-item c = many_at-end head_at c.args.n c.loop-number._number c.loop-number.c c.loop-number.heads.items (many_at head_at c.args.n c.args.c.now) c.loop-number.invariant.0 (omega arith)
