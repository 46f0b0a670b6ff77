-- One side more is linked.
use Rattle.std.proofs.Common.{◌≡◌, ℕ, ◌+◌, ◌-◌, ◌<◌, length, get_or, subst, arith}
use Rattle.std.proofs.lemmas.List.{get_or_read}
use Rattle.first_items.specs.Chains.{AreLinked, AreFirsts}
use Rattle.first_items.proofs.ChainLists.{IsLinking, linked_more, firsts_more}
use Rattle.first_items.proofs.chains.chains_of.Goals as goal

pub loop-done-preserved : goal.loop-done-preserved
loop-done-preserved c =
    let t = c.loop-done-test.true in
    let x : ℕ = length c.args.classes.now - 1 - c.loop-done.done in
    let now : length c.args.classes.now - (c.loop-done.done + 1) ≡ length c.args.classes.now - 1 - c.loop-done.done = omega arith in
    let was : length c.args.classes.now - c.loop-done.done ≡ length c.args.classes.now - 1 - c.loop-done.done + 1 = omega arith in
    let L : IsLinking c.args.classes.now c.loop-done.nexts.items c.loop-done.firsts.items c.args.count (length c.args.classes.now - 1 - c.loop-done.done) = record {
      inside = omega arith;
      below = c.requires.below;
      linked = subst (AreLinked c.args.classes.now c.loop-done.nexts.items) was c.loop-done.invariant.linked;
      firsts_are = subst (AreFirsts c.args.classes.now c.loop-done.firsts.items c.args.count) was c.loop-done.invariant.firsts;
    } in
    let b = L.below (length c.args.classes.now - 1 - c.loop-done.done) L.inside in
    let e = L.firsts_are.each in
    let small : get_or c.args.classes.now (length c.args.classes.now - 1 - c.loop-done.done) 0 < length c.loop-done.firsts.items = omega arith in
    let read = get_or_read c.loop-done.firsts.items (get_or c.args.classes.now (length c.args.classes.now - 1 - c.loop-done.done) 0) c.index.result.now small c.index.ensures 0 in
    record { linked = rw (now, read) (linked_more L); firsts = rw now (firsts_more L) }

pub returns-clause-linked : goal.returns-clause-linked
returns-clause-linked c =
    let t = c.loop-done-test.false in
    let none : length c.args.classes.now - c.loop-done.done ≡ 0 = omega arith in
    subst (AreLinked c.args.classes.now c.loop-done.nexts.items) none c.loop-done.invariant.linked
