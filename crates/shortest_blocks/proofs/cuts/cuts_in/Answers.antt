use Rattle.std.proofs.Common.{length, Vec, Global, arith, ap, ◌∙◌, refl}
use Rattle.shortest_blocks.specs.declared.cuts.Cut.{Cut}
use Rattle.shortest_blocks.proofs.BestCuts.{are-cuts, cuts-some, first-cuts, groups-more, groups-next, next-cuts, same-cuts}
use Rattle.shortest_blocks.proofs.cuts.cuts_in.Goals as goal
use Rattle.shortest_blocks.proofs.cuts.cuts_in.Goals.{then-counts-last-gt0+in_ok-add_best, else-counts-last-gt0}

pub loop-last-init : goal.loop-last-init
loop-last-init c = record {
  cuts = first-cuts c.args.counts.now c.args.all c.args.comps c.push.new.self.items c.new-cuts.result.items c.from_vec.result c.in_ok-push.ensures.items c.new-cuts.ensures.items (c.from_vec.ensures ∙ c.new.ensures.items);
  groups = refl;
}

pub overflow_add-groups : goal.overflow_add-groups
overflow_add-groups c =
    let m = groups-more c.args.counts.now c.loop-last.last c.loop-last.groups c.args.all c.loop-last-test.true c.loop-last.invariant.groups c.requires.whole in
    omega (arith, m, c.ranges.all.fits)

pub add_best-requires-clause-some : goal.add_best-requires-clause-some
add_best-requires-clause-some c =
    let e = ap length c.loop-last.invariant.cuts in
    let s = cuts-some c.args.counts.now c.args.all c.args.comps c.loop-last.last in
    omega (arith, e, s)

pub add_best-requires-clause-within : goal.add_best-requires-clause-within
add_best-requires-clause-within c =
    groups-more c.args.counts.now c.loop-last.last c.loop-last.groups c.args.all c.loop-last-test.true c.loop-last.invariant.groups c.requires.whole

pub add_best-requires-clause-cuts : goal.add_best-requires-clause-cuts
add_best-requires-clause-cuts c =
    are-cuts c.args.counts.now c.args.all c.args.comps c.loop-last.last c.loop-last.groups c.loop-last.cuts.items c.loop-last.invariant.cuts c.loop-last.invariant.groups c.requires.whole
    (omega (arith, c.ranges.all.fits)) c.requires.small (omega (arith, c.loop-last-test.true, c.requires.few)) c.if-counts-last-gt0.true

pub loop-last-preserved : goal.loop-last-preserved
loop-last-preserved c = record {
  cuts = elim c.if-counts-last-gt0.branch [
    | then-counts-last-gt0+in_ok-add_best w ↦
        next-cuts c.args.counts.now c.args.all c.args.comps c.loop-last.last c.loop-last.groups c.loop-last.cuts.items c.if-counts-last-gt0.cuts.items c.loop-last.invariant.cuts
        c.loop-last.invariant.groups w.if-counts-last-gt0.true (ap (λ (v : Vec Cut Global). v.items) w.cuts-is ∙ w.in_ok-add_best.ensures)
    | else-counts-last-gt0 w ↦
        ap (λ (v : Vec Cut Global). v.items) w.cuts-is
        ∙ same-cuts c.args.counts.now c.args.all c.args.comps c.loop-last.last c.loop-last.cuts.items c.loop-last.invariant.cuts w.if-counts-last-gt0.false
  ];
  groups = groups-next c.args.counts.now c.loop-last.last c.loop-last.groups c.loop-last.invariant.groups;
}
