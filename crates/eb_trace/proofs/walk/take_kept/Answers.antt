-- Each turn takes one kept corner off.
use Rattle.std.proofs.Common.{◌≡◌, ◌*◌, ◌/◌, ◌<◌, ℕ, Some, [], map, reverse, sym, ap, ◌∙◌, arith}
use Rattle.std.proofs.lemmas.List.Elements.{All-pop}
use Rattle.corner_table.specs.Sides.{side_at}
use Rattle.eb_trace.specs.declared.notes.Notes.{Notes}
use Rattle.eb_trace.specs.Trace.{take_kept}
use Rattle.eb_trace.specs.Stored.{noted_walk}
use Rattle.eb_trace.proofs.Going.{taken_off, take_visited, took_none, took_some, nothing_in}
use Rattle.eb_trace.proofs.walk.take_kept.Goals as goal

pub returns-in-None-clause-walk : goal.returns-in-None-clause-walk
returns-in-None-clause-walk c =
    let before : c.taking.notes.kept.items ≡ [] = nothing_in _ (sym c.taking.notes.kept.ok.0 ∙ c.in-None.ensures.cases.0) in
    let after : c.pop.new.self.items ≡ [] = nothing_in _ (sym c.pop.new.self.ok.0 ∙ c.in-None.ensures.cases.1) in
    took_none c.args.notes.now _ (ap (λ (n : Notes). record n { kept = c.pop.new.self }) c.taking.invariant.rest)
    (c.taking.invariant.same ∙ ap (λ (l : _). take_kept (noted_walk c.args.notes.now) (map side_at (reverse l))) before) after

pub returns-then-not-is_visited-clause-walk : goal.returns-then-not-is_visited-clause-walk
returns-then-not-is_visited-clause-walk c =
    let w = (All-pop (λ (k : ℕ). k < 3 * c.args.s.now.faces) _ _ (Some c.in-Some.corner) c.in-Some.ensures.items c.taking.invariant.within).1 in
    took_some c.args.notes.now _ c.in-Some.corner (ap (λ (n : Notes). record n { kept = c.pop.new.self }) c.taking.invariant.rest)
    (c.taking.invariant.same ∙ ap (take_kept (noted_walk c.args.notes.now)) (taken_off _ _ c.in-Some.corner c.in-Some.ensures.items))
    (sym (c.requires.stored.marks.marked.visited_is (c.in-Some.corner / 3) (omega arith)) ∙ sym c.is_visited.ensures ∙ c.if-not-is_visited.true)

pub taking-preserved : goal.taking-preserved
taking-preserved c =
    let w = (All-pop (λ (k : ℕ). k < 3 * c.args.s.now.faces) _ _ (Some c.in-Some.corner) c.in-Some.ensures.items c.taking.invariant.within).1 in
    record {
      rest = ap (λ (n : Notes). record n { kept = c.pop.new.self }) c.taking.invariant.rest;
      within = (All-pop (λ (k : ℕ). k < 3 * c.args.s.now.faces) _ _ _ c.pop.ensures.items c.taking.invariant.within).0;
      same = c.taking.invariant.same ∙ ap (take_kept (noted_walk c.args.notes.now)) (taken_off _ _ c.in-Some.corner c.in-Some.ensures.items) ∙ take_visited (noted_walk c.args.notes.now) (side_at c.in-Some.corner) _ (sym (c.requires.stored.marks.marked.visited_is (c.in-Some.corner / 3) (omega arith)) ∙ sym c.is_visited.ensures ∙ c.if-not-is_visited.false);
    }
