use Rattle.std.proofs.Common.{◌≡◌, ◌<◌, ◌≤◌, length, sum, ap, ◌∙◌, sym, subst, arith}
use Rattle.symbol_tables.specs.Normal.{greatest_count}
use Rattle.symbol_coding.proofs.Counts.{counts_of-length, greatest-below}
use Rattle.shortest_blocks.specs.Joined.{cut_of}
use Rattle.shortest_blocks.proofs.BestCuts.{cuts-some}
use Rattle.shortest_blocks.proofs.Counted.{counted-few}
use Rattle.shortest_blocks.proofs.Joined.{cut-holds, cut-is, joined-all}
use Rattle.shortest_blocks.proofs.joining.join.Goals as goal

pub cuts_in-requires-clause-whole : goal.cuts_in-requires-clause-whole
cuts_in-requires-clause-whole c =
    subst (λ xs. sum xs ≤ length c.args.lengths.now) (sym (c.as_slice.ensures.value ∙ c.in_ok-counts.ensures)) (counted-few c.args.lengths.now)

pub cuts_in-requires-clause-few : goal.cuts_in-requires-clause-few
cuts_in-requires-clause-few c =
    let e = ap length (c.as_slice.ensures.value ∙ c.in_ok-counts.ensures) in
    let l = counts_of-length c.args.lengths.now in
    let small : greatest_count c.args.lengths.now < 33 = greatest-below c.args.lengths.now 33 (omega arith) (λ k. let h = c.requires.most k in omega (arith, h)) in
    omega (arith, e, l, small)

pub overflow_sub-len : goal.overflow_sub-len
overflow_sub-len c =
    let e = ap length c.in_ok-cuts.ensures in
    let s = cuts-some c.as_slice.result.now (length c.args.lengths.now) c.args.comps (length c.as_slice.result.now) in
    omega (arith, e, s, c.len.ensures, c.in_ok-cuts.cuts.ok)

pub index-requires : goal.index-requires
index-requires c =
    let e = ap length c.in_ok-cuts.ensures in
    let s = cuts-some c.as_slice.result.now (length c.args.lengths.now) c.args.comps (length c.as_slice.result.now) in
    omega (arith, e, s, c.len.ensures, c.in_ok-cuts.cuts.ok)

pub bounds-joined-length : goal.bounds-joined-length
bounds-joined-length c =
    let is : c.as_slice-joined.result.now ≡ (cut_of c.args.comps c.args.lengths.now).joined =
    c.as_slice-joined.ensures.items
    ∙ cut-is c.args.comps c.args.lengths.now c.as_slice.result.now c.in_ok-cuts.cuts.items c.len.result c.index.result.now (c.as_slice.ensures.value ∙ c.in_ok-counts.ensures) c.in_ok-cuts.ensures
    (omega (arith, c.len.ensures, c.in_ok-cuts.cuts.ok)) c.index.ensures in
    let l = ap length is in
    let h = cut-holds c.args.comps c.args.lengths.now c.loop-length.length-index c.loop-length-test.true in
    omega (arith, l, h.0)

pub returns : goal.returns
returns c =
    let is : c.as_slice-joined.result.now ≡ (cut_of c.args.comps c.args.lengths.now).joined =
    c.as_slice-joined.ensures.items
    ∙ cut-is c.args.comps c.args.lengths.now c.as_slice.result.now c.in_ok-cuts.cuts.items c.len.result c.index.result.now (c.as_slice.ensures.value ∙ c.in_ok-counts.ensures) c.in_ok-cuts.ensures
    (omega (arith, c.len.ensures, c.in_ok-cuts.cuts.ok)) c.index.ensures in
    joined-all c.args.comps c.args.lengths.now c.as_slice-joined.result.now c.loop-length.all.items c.loop-length.length-index c.loop-length.invariant.all (omega (arith, c.loop-length-test.false)) is
