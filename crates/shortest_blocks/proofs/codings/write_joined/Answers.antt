use Rattle.std.proofs.Common.{◌∙◌, arith}
use Rattle.shortest_blocks.proofs.Shortest.{are-groups, are-joined-of}
use Rattle.shortest_blocks.proofs.codings.write_joined.Goals as goal

pub join-requires-clause-some : goal.join-requires-clause-some
join-requires-clause-some c =
    (are-groups c.args.comps c.args.values.now c.as_slice.result.now (c.as_slice.ensures.value ∙ c.in_ok-lengths.ensures) c.requires.divides c.requires.some c.requires.few).some

pub join-requires-clause-small : goal.join-requires-clause-small
join-requires-clause-small c =
    (are-groups c.args.comps c.args.values.now c.as_slice.result.now (c.as_slice.ensures.value ∙ c.in_ok-lengths.ensures) c.requires.divides c.requires.some c.requires.few).small

pub join-requires-clause-most : goal.join-requires-clause-most
join-requires-clause-most c =
    (are-groups c.args.comps c.args.values.now c.as_slice.result.now (c.as_slice.ensures.value ∙ c.in_ok-lengths.ensures) c.requires.divides c.requires.some c.requires.few).most

pub write_tagged-requires-clause-some : goal.write_tagged-requires-clause-some
write_tagged-requires-clause-some c =
    (are-joined-of c.args.comps c.args.values.now c.as_slice.result.now c.as_slice-2.result.now (c.as_slice.ensures.value ∙ c.in_ok-lengths.ensures) (c.as_slice-2.ensures.value ∙ c.in_ok-joined.ensures)
    c.requires.divides c.requires.some c.requires.few (λ k. let h = c.type_inv.values k in omega (arith, h))).some

pub write_tagged-requires-clause-few : goal.write_tagged-requires-clause-few
write_tagged-requires-clause-few c =
    (are-joined-of c.args.comps c.args.values.now c.as_slice.result.now c.as_slice-2.result.now (c.as_slice.ensures.value ∙ c.in_ok-lengths.ensures) (c.as_slice-2.ensures.value ∙ c.in_ok-joined.ensures)
    c.requires.divides c.requires.some c.requires.few (λ k. let h = c.type_inv.values k in omega (arith, h))).few

pub write_tagged-requires-clause-most : goal.write_tagged-requires-clause-most
write_tagged-requires-clause-most c =
    (are-joined-of c.args.comps c.args.values.now c.as_slice.result.now c.as_slice-2.result.now (c.as_slice.ensures.value ∙ c.in_ok-lengths.ensures) (c.as_slice-2.ensures.value ∙ c.in_ok-joined.ensures)
    c.requires.divides c.requires.some c.requires.few (λ k. let h = c.type_inv.values k in omega (arith, h))).most

pub write_tagged-requires-clause-len : goal.write_tagged-requires-clause-len
write_tagged-requires-clause-len c =
    (are-joined-of c.args.comps c.args.values.now c.as_slice.result.now c.as_slice-2.result.now (c.as_slice.ensures.value ∙ c.in_ok-lengths.ensures) (c.as_slice-2.ensures.value ∙ c.in_ok-joined.ensures)
    c.requires.divides c.requires.some c.requires.few (λ k. let h = c.type_inv.values k in omega (arith, h))).whole

pub write_tagged-requires-clause-widths : goal.write_tagged-requires-clause-widths
write_tagged-requires-clause-widths c =
    (are-joined-of c.args.comps c.args.values.now c.as_slice.result.now c.as_slice-2.result.now (c.as_slice.ensures.value ∙ c.in_ok-lengths.ensures) (c.as_slice-2.ensures.value ∙ c.in_ok-joined.ensures)
    c.requires.divides c.requires.some c.requires.few (λ k. let h = c.type_inv.values k in omega (arith, h))).fit
