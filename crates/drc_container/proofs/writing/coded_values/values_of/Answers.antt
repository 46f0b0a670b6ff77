use Rattle.std.proofs.Common.{◌≡◌, ◌+◌, ◌<◌, ◌≤◌, length, ◌∙◌, ap, subst, get_or, arith}
use Rattle.attr_heads.specs.Head.{width_of}
use Rattle.mesh_model.specs.Contents.{heads_in, points_in}
use Rattle.attr_heads.proofs.Widths.{width_of-bounds}
use Rattle.drc_container.proofs.lemmas.writing.Extracted.{values-start, values-next, width-next}
use Rattle.drc_container.proofs.writing.coded_values.values_of.Goals as goal

pub loop-head-init : goal.loop-head-init
loop-head-init c =
    (rw c.new-values.ensures.items (values-start _ (heads_in c.args.g.now) (points_in c.args.g.now)), omega arith)

pub overflow_add-start : goal.overflow_add-start
overflow_add-start c =
    let heads = heads_in c.args.g.now in
    let k = c.loop-head.head-index in
    let h = c.head-item.result in
    let has : k < length heads = subst (λ hs. k < length hs) c.heads-head-items.ensures.heads c.loop-head-test.true in
    let is : h ≡ get_or heads k h = c.head-item.is ∙ ap (λ hs. get_or hs k h) c.heads-head-items.ensures.heads in
    let next = width-next heads k c.loop-head.start h c.loop-head.invariant.1 has is in
    let narrow : width_of heads ≤ 128 = (width_of-bounds heads c.heads-head-items.ensures.sound.heads_pass).1 in
    let small : c.loop-head.start + h.comps ≤ 128 = omega (arith, next, narrow) in
    omega (arith, small)

pub loop-head-preserved : goal.loop-head-preserved
loop-head-preserved c =
    let heads = heads_in c.args.g.now in
    let points = points_in c.args.g.now in
    let k = c.loop-head.head-index in
    let h = c.head-item.result in
    let has : k < length heads = subst (λ hs. k < length hs) c.heads-head-items.ensures.heads c.loop-head-test.true in
    let is : h ≡ get_or heads k h = c.head-item.is ∙ ap (λ hs. get_or hs k h) c.heads-head-items.ensures.heads in (
      rw (c.in_ok-push.ensures.items, c.values_asked.ensures)
          (values-next _ heads points k c.loop-head.start h c.in_ok-column.column.items c.loop-head.values.items _ c.loop-head.invariant.0 has is c.in_ok-column.ensures),
      width-next heads k c.loop-head.start h c.loop-head.invariant.1 has is,
    )
