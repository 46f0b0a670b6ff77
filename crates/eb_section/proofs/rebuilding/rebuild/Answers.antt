-- Symbols, closes and the tests at the end make the whole.
use Rattle.std.proofs.Common.{◌∙◌, suc, min, Bool, IsTrue, ap, sym, subst, arith}
use Rattle.std.proofs.lemmas.Result.{err_from_is_err_and}
use Rattle.eb_machine.specs.Machine.{State, Plan, finish}
use Rattle.eb_section.proofs.Runs.{refused-symbol, refused-close, behind-closes, ends-as, ended-faces, fed-none, symbols-within, calls-within, labelled-within, unlabelled}
use Rattle.eb_section.proofs.rebuilding.rebuild.Goals as goal

pub returns-in_err-grown-clause-ends : goal.returns-in_err-grown-clause-ends
returns-in_err-grown-clause-ends g c =
    let p = err_from_is_err_and c.from_residual.result c.from_residual.ensures.1 in
    rw (p.1, p.2) (refused-symbol g.F.SymbolSource.gives (g.R.Rebuild.plan c.args.machine) c.args.count c.args.source c.args.starts (g.R.Rebuild.state c.args.machine) _ c.requires.all c.in_err-grown.ensures.fed)

pub returns-in_err-grown-clause-cost : goal.returns-in_err-grown-clause-cost
returns-in_err-grown-clause-cost g c = λ linked.
    symbols-within _ _ (min c.args.count (suc (g.F.SymbolSource.left c.args.source))) (g.R.Rebuild.plan c.args.machine).faces _ (c.in_err-grown.ensures.cost linked)
    (let few = c.requires.within in omega arith) c.requires.room

pub returns-in_err-closed-clause-ends : goal.returns-in_err-closed-clause-ends
returns-in_err-closed-clause-ends g c =
    let p = err_from_is_err_and c.from_residual-in_err-closed.result c.from_residual-in_err-closed.ensures.1 in
    rw (p.1, p.2) (refused-close g.F.SymbolSource.gives (g.R.Rebuild.plan c.args.machine) (g.R.Rebuild.plan c.in_ok-grown.grown) c.args.count c.args.source c.args.starts (g.R.Rebuild.state c.args.machine) (g.R.Rebuild.state c.in_ok-grown.grown) _
    c.requires.all c.in_ok-grown.ensures.plan c.in_ok-grown.ensures.fed c.in_err-closed.ensures.closed)

pub returns-in_err-closed-clause-cost : goal.returns-in_err-closed-clause-cost
returns-in_err-closed-clause-cost g c = λ linked.
    let t : State = g.R.Rebuild.state c.in_ok-grown.grown in
    calls-within (g.R.Rebuild.plan c.args.machine) (g.R.Rebuild.plan c.in_ok-grown.grown) _ _ _ _ c.args.count t.built (g.F.SymbolSource.left c.args.source) (g.R.Rebuild.room c.args.machine)
    c.requires.within c.in_ok-grown.ensures.built c.in_ok-grown.ensures.plan c.in_ok-grown.ensures.came
    (c.in_ok-grown.ensures.cost linked) (c.in_err-closed.ensures.cost (subst (λ (b : Bool). IsTrue b) (sym c.in_ok-grown.ensures.linked) linked))
    (unlabelled _ _) c.requires.room
    (λ none. c.in_err-closed.ensures.same (fed-none g.F.SymbolSource.gives c.args.count c.args.source (g.R.Rebuild.state c.args.machine) t c.in_ok-grown.ensures.fed none c.requires.empty))

pub returns-clause-ends : goal.returns-clause-ends
returns-clause-ends g c =
    ends-as _ (g.R.Rebuild.plan c.in_ok-closed.closed) (g.R.Rebuild.state c.in_ok-closed.closed) c.finish.result
    (behind-closes g.F.SymbolSource.gives (g.R.Rebuild.plan c.args.machine) (g.R.Rebuild.plan c.in_ok-grown.grown) c.args.count c.args.source c.args.starts (g.R.Rebuild.state c.args.machine)
    (g.R.Rebuild.state c.in_ok-grown.grown) (g.R.Rebuild.state c.in_ok-closed.closed) c.requires.all c.in_ok-grown.ensures.plan c.in_ok-grown.ensures.fed c.in_ok-closed.ensures.closed
    ∙ ap (λ (p : Plan). finish p (g.R.Rebuild.state c.in_ok-closed.closed)) (sym (c.in_ok-closed.ensures.plan ∙ c.in_ok-grown.ensures.plan)))
    c.finish.ensures.ends

pub returns-clause-faces : goal.returns-clause-faces
returns-clause-faces g c =
    ended-faces (g.R.Rebuild.plan c.args.machine) (g.R.Rebuild.plan c.in_ok-closed.closed) (g.R.Rebuild.state c.in_ok-closed.closed) c.finish.result
    (c.in_ok-closed.ensures.plan ∙ c.in_ok-grown.ensures.plan) c.finish.ensures.ends

pub returns-clause-cost : goal.returns-clause-cost
returns-clause-cost g c = λ linked.
    let t : State = g.R.Rebuild.state c.in_ok-grown.grown in
    calls-within (g.R.Rebuild.plan c.args.machine) (g.R.Rebuild.plan c.in_ok-grown.grown) _ _ _ _ c.args.count t.built (g.F.SymbolSource.left c.args.source) (g.R.Rebuild.room c.args.machine)
    c.requires.within c.in_ok-grown.ensures.built c.in_ok-grown.ensures.plan c.in_ok-grown.ensures.came
    (c.in_ok-grown.ensures.cost linked) (c.in_ok-closed.ensures.cost (subst (λ (b : Bool). IsTrue b) (sym c.in_ok-grown.ensures.linked) linked))
    (labelled-within _ _ _ _ (c.in_ok-closed.ensures.room ∙ c.in_ok-grown.ensures.room)
    (c.finish.ensures.cost (subst (λ (b : Bool). IsTrue b) (sym (c.in_ok-closed.ensures.linked ∙ c.in_ok-grown.ensures.linked)) linked)))
    c.requires.room
    (λ none. c.in_ok-closed.ensures.same (fed-none g.F.SymbolSource.gives c.args.count c.args.source (g.R.Rebuild.state c.args.machine) t c.in_ok-grown.ensures.fed none c.requires.empty))
