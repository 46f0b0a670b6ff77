-- The surface of the lists as they are kept is that of the lists.
use Rattle.std.proofs.Common.{◌+◌, ◌≤◌, ℕ, rules, ap, sym, subst, ◌∙◌}
use Rattle.std.proofs.lemmas.Result.{err_from_is_err_and}
use Rattle.eb_section.specs.Calls.{faces_from, most_calls}
use Rattle.eb_section.proofs.KeptLists.{surface, behind_kept, lists_refused, run_refused, symbols_kept}
use Rattle.eb_section.proofs.reading.read_valence.Goals as goal

pub returns-in_err-source-clause-section : goal.returns-in_err-source-clause-section
returns-in_err-source-clause-section g c =
    let p = err_from_is_err_and c.from_residual-in_err-source.result c.from_residual-in_err-source.ensures.1 in
    rw (p.1, p.2) (lists_refused c.args.opening c.args.events.items c.args.c.now _ _ _ _ _ c.in_ok-starts.ensures c.in_ok-seams.ensures.blocks c.in_err-source.ensures)

pub returns-in_err-sides-clause-section : goal.returns-in_err-sides-clause-section
returns-in_err-sides-clause-section g c =
    let p = err_from_is_err_and c.from_residual-in_err-sides.result c.from_residual-in_err-sides.ensures.1 in
    rw (p.1, p.2) (run_refused c.args.opening c.args.events.items c.args.c.now _ _ _ _ _ _ _ c.in_ok-starts.ensures c.in_ok-seams.ensures.blocks c.in_ok-source.ensures c.in_err-sides.ensures.ends)

pub returns-in_err-sides-clause-read_cost : goal.returns-in_err-sides-clause-read_cost
returns-in_err-sides-clause-read_cost g c =
    subst (λ (n : ℕ). c.rebuild_linked.new.steps ≤ c.args.steps.now + most_calls (faces_from c.args.opening.faces n))
    (sym (symbols_kept c.args.opening c.args.c.now _ _ _ _ _ _ c.in_ok-starts.ensures c.in_ok-seams.ensures.blocks c.in_ok-source.ensures)) c.rebuild_linked.ensures.read_cost

pub returns-clause-section : goal.returns-clause-section
returns-clause-section g c =
    let ends = c.in_ok-sides.ensures.ends in
    behind_kept c.args.opening c.args.events.items c.args.c.now _ _ _ _ _ _ c.in_ok-starts.ensures c.in_ok-seams.ensures.blocks c.in_ok-source.ensures
    ∙ ap (surface c.args.opening c.args.events.items c.in_ok-seams.seams.items c.read_contexts.new.c) ends.1
    ∙ rw c.read_of.ensures (search rules)

pub returns-clause-read_cost : goal.returns-clause-read_cost
returns-clause-read_cost g c =
    subst (λ (n : ℕ). c.rebuild_linked.new.steps ≤ c.args.steps.now + most_calls (faces_from c.args.opening.faces n))
    (sym (symbols_kept c.args.opening c.args.c.now _ _ _ _ _ _ c.in_ok-starts.ensures c.in_ok-seams.ensures.blocks c.in_ok-source.ensures)) c.rebuild_linked.ensures.read_cost
