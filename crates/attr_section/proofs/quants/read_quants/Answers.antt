use Rattle.std.proofs.Common.{◌+◌, ◌<◌, length, ap, ◌∙◌, arith}
use Rattle.std.proofs.lemmas.List.{length_push}
use Rattle.std.proofs.lemmas.Result.{err_from_is_err_and}
use Rattle.attr_section.specs.Attributes.{next_completed_at, quants_at}
use Rattle.attr_section.proofs.Columned.{comps_of-next}
use Rattle.attr_section.proofs.Completed.{values_here}
use Rattle.attr_section.proofs.Each.{each_at-next, each_at-refuses, each_at-end}
use Rattle.attr_section.proofs.quants.read_quants.Goals as goal

pub returns-in_err-new-clause-items : goal.returns-in_err-new-clause-items
unfolding quants_at
returns-in_err-new-clause-items c =
    let p = err_from_is_err_and c.from_residual.result c.from_residual.ensures.1 in
    let within : c.loop-k.k < length c.args.values.now = omega (arith, c.requires) in
    let here = values_here c.args.values.now c.loop-k.quantised.items c.loop-k.k c.index-values-k.result c.loop-k.invariant.2 within c.index-values-k.is in
    rw (p.1, p.2) (each_at-refuses (next_completed_at c.args.values.now) c.args.heads.now c.loop-k.k c.index-heads-k.result c.loop-k.quantised.items c.loop-k.c c.in_err-new.field-0.0
    (quants_at c.args.heads.now c.args.values.now c.args.c.now) c.loop-k.invariant.0 (omega arith) c.index-heads-k.is
    (rw here c.in_err-new.ensures.item))

pub loop-k-preserved : goal.loop-k-preserved
unfolding quants_at
loop-k-preserved c =
    let within : c.loop-k.k < length c.args.values.now = omega (arith, c.requires) in
    let here = values_here c.args.values.now c.loop-k.quantised.items c.loop-k.k c.index-values-k.result c.loop-k.invariant.2 within c.index-values-k.is in
    rw c.in_ok-push.ensures.items (
      each_at-next (next_completed_at c.args.values.now) c.args.heads.now c.loop-k.k c.index-heads-k.result c.loop-k.quantised.items c.loop-k.c c.read_completed.new.c c.in_ok-new.new
          (quants_at c.args.heads.now c.args.values.now c.args.c.now) c.loop-k.invariant.0 (omega arith) c.index-heads-k.is (rw here c.in_ok-new.ensures.item),
      comps_of-next c.loop-k.k c.args.heads.now c.loop-k.quantised.items c.index-heads-k.result c.in_ok-new.new c.loop-k.invariant.1 (omega arith) c.index-heads-k.is c.in_ok-new.ensures.comps,
      length_push c.loop-k.quantised.items c.in_ok-new.new ∙ ap (λ n. n + 1) c.loop-k.invariant.2,
    )

pub returns-clause-items : goal.returns-clause-items
unfolding quants_at
returns-clause-items c =
    each_at-end (next_completed_at c.args.values.now) c.args.heads.now c.loop-k.k c.loop-k.quantised.items c.loop-k.c (quants_at c.args.heads.now c.args.values.now c.args.c.now) c.loop-k.invariant.0 (omega arith)
