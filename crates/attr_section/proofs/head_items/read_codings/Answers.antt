use Rattle.drc_base.specs.Profile.{profile_numbered}
use Rattle.std.proofs.Common.{◌+◌, ◌<◌, ap, ◌∙◌, arith}
use Rattle.std.proofs.lemmas.List.{length_push}
use Rattle.std.proofs.lemmas.List.Elements.{All-push}
use Rattle.std.proofs.lemmas.Result.{err_from_is_err_and}
use Rattle.attr_section.specs.Heads.{coded_at, codings_at}
use Rattle.attr_section.specs.Orders.{HasCoordinates}
use Rattle.attr_section.proofs.Each.{each_at-next, each_at-fault, each_at-end}
use Rattle.attr_section.proofs.head_items.read_codings.Goals as goal

pub returns-in_err-new-clause-item : goal.returns-in_err-new-clause-item
returns-in_err-new-clause-item c =
    let p = err_from_is_err_and c.from_residual.result c.from_residual.ensures.1 in
    rw (p.1, p.2) (each_at-fault (λ _ h. coded_at (profile_numbered c.args.profile.number) h) c.args.heads.now c.loop-head.head-index c.head-item.result c.loop-head.coded.items c.loop-head.c c.in_err-new.field-0.0
    (codings_at (profile_numbered c.args.profile.number) c.args.heads.now c.args.c.now) c.loop-head.invariant.0 (omega arith) c.head-item.is c.in_err-new.ensures.item)

pub loop-head-preserved : goal.loop-head-preserved
loop-head-preserved c =
    rw c.in_ok-push.ensures.items (
      each_at-next (λ _ h. coded_at (profile_numbered c.args.profile.number) h) c.args.heads.now c.loop-head.head-index c.head-item.result c.loop-head.coded.items c.loop-head.c c.read_coded.new.c c.in_ok-new.new
          (codings_at (profile_numbered c.args.profile.number) c.args.heads.now c.args.c.now) c.loop-head.invariant.0 (omega arith) c.head-item.is c.in_ok-new.ensures.item,
      length_push c.loop-head.coded.items c.in_ok-new.new ∙ ap (λ n. n + 1) c.loop-head.invariant.1,
      All-push (λ h. 0 < h.comps) c.loop-head.coded.items c.in_ok-new.new c.loop-head.invariant.2 c.in_ok-new.ensures.some,
      All-push HasCoordinates c.loop-head.coded.items c.in_ok-new.new c.loop-head.invariant.3 c.in_ok-new.ensures.square,
    )

pub returns-clause-item : goal.returns-clause-item
returns-clause-item c =
    each_at-end (λ _ h. coded_at (profile_numbered c.args.profile.number) h) c.args.heads.now c.loop-head.head-index c.loop-head.coded.items c.loop-head.c (codings_at (profile_numbered c.args.profile.number) c.args.heads.now c.args.c.now) c.loop-head.invariant.0 (omega arith)
