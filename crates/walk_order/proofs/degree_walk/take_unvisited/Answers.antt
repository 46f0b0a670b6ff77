-- Each turn takes one corner off.
use Rattle.std.proofs.Common.{◌≡◌, ◌*◌, ◌<◌, ℕ, length, sym, ◌∙◌, arith}
use Rattle.std.proofs.lemmas.List.Elements.{All-pop}
use Rattle.walk_order.specs.Stored.{marked_walk}
use Rattle.walk_order.proofs.Ranking.{took_none, took_some, took_on}
use Rattle.walk_order.proofs.degree_walk.take_unvisited.Goals as goal

pub returns-in-None-clause-taken : goal.returns-in-None-clause-taken
returns-in-None-clause-taken c =
    let p = c.in-None.ensures.cases in
    let before : length c.taking.stack.items ≡ 0 = omega arith in
    let after : length c.pop.new.self.items ≡ 0 = omega arith in
    took_none (marked_walk c.args.marks.now) c.args.stack.now.items c.taking.stack.items c.pop.new.self.items c.taking.invariant.same before after

pub returns-then-not-is_visited-clause-taken : goal.returns-then-not-is_visited-clause-taken
returns-then-not-is_visited-clause-taken c =
    took_some (marked_walk c.args.marks.now) c.args.stack.now.items c.taking.stack.items c.pop.new.self.items c.in-Some.corner c.taking.invariant.same c.in-Some.ensures.items
    (sym c.is_visited.ensures ∙ c.if-not-is_visited.true)

pub taking-preserved : goal.taking-preserved
taking-preserved c = record {
  within = (All-pop (λ (k : ℕ). k < 3 * c.args.s.now.faces) _ _ _ c.pop.ensures.items c.taking.invariant.within).0;
  same = took_on (marked_walk c.args.marks.now) c.args.stack.now.items c.taking.stack.items c.pop.new.self.items c.in-Some.corner c.taking.invariant.same c.in-Some.ensures.items
      (sym c.is_visited.ensures ∙ c.if-not-is_visited.false);
}
