-- Each symbol is drawn and taken; the first fault is that of the whole.
use Rattle.std.proofs.Common.{◌≡◌, ◌∙◌, Bool, IsTrue, ap, sym, subst, arith}
use Rattle.std.proofs.lemmas.Result.{err_from_is_err_and}
use Rattle.eb_machine.specs.Machine.{State, Plan, step}
use Rattle.eb_machine.proofs.Counts.{step_counts}
use Rattle.eb_section.proofs.Runs.{came-on, few_calls, fed-next, fed-missing, fed-refused, fed-end, moves-err}
use Rattle.eb_section.proofs.rebuilding.take_symbols.Goals as goal

pub returns-in_err-symbol-clause-fed : goal.returns-in_err-symbol-clause-fed
returns-in_err-symbol-clause-fed g c =
    let p = err_from_is_err_and c.from_residual.result c.from_residual.ensures.1 in
    rw (p.1, p.2) (fed-missing g.F.SymbolSource.gives c.args.count c.loop-number.number c.loop-number.source (g.R.Rebuild.state c.loop-number.machine) _ _ c.loop-number.invariant.told c.loop-number-test.true c.in_err-symbol.ensures.draws)

pub returns-in_err-symbol-2-clause-fed : goal.returns-in_err-symbol-2-clause-fed
returns-in_err-symbol-2-clause-fed g c =
    let p = err_from_is_err_and c.from_residual-in_err-symbol-2.result c.from_residual-in_err-symbol-2.ensures.1 in
    let s : State = g.R.Rebuild.state c.loop-number.machine in
    let all : (g.R.Rebuild.plan c.loop-number.machine).symbols ≡ c.args.count = ap (λ (q : Plan). q.symbols) c.loop-number.invariant.plan ∙ c.requires.all in
    rw (p.1, p.2) (moves-err _ (g.R.Rebuild.state c.symbol.new.self) (g.R.Rebuild.live c.symbol.new.self) c.in_err-symbol-2.field-0.0 _ c.in_err-symbol-2.ensures.moves
    (λ f refused. fed-refused g.F.SymbolSource.gives c.args.count c.loop-number.number c.loop-number.source c.draw.new.self s c.in_ok-symbol.symbol f _ c.loop-number.invariant.told c.loop-number-test.true c.in_ok-symbol.ensures.draws
    (ap (λ m. step m c.in_ok-symbol.symbol s) (sym all) ∙ refused)))

pub loop-number-preserved : goal.loop-number-preserved
loop-number-preserved g c =
    let s : State = g.R.Rebuild.state c.loop-number.machine in
    let t : State = g.R.Rebuild.state c.symbol.new.self in
    let all : (g.R.Rebuild.plan c.loop-number.machine).symbols ≡ c.args.count = ap (λ (q : Plan). q.symbols) c.loop-number.invariant.plan ∙ c.requires.all in
    let stepped = ap (λ m. step m c.in_ok-symbol.symbol s) (sym all) ∙ c.in_ok-symbol-2.ensures.moves.0 in
    let counts = step_counts _ _ s t stepped in
    record {
      told = fed-next g.F.SymbolSource.gives c.args.count c.loop-number.number c.loop-number.source c.draw.new.self s t c.in_ok-symbol.symbol _ c.loop-number.invariant.told c.loop-number-test.true c.in_ok-symbol.ensures.draws stepped;
      live = c.in_ok-symbol-2.ensures.moves.1;
      plan = c.in_ok-symbol-2.ensures.plan ∙ c.loop-number.invariant.plan;
      linked = c.in_ok-symbol-2.ensures.linked ∙ c.loop-number.invariant.linked;
      built = counts.0 ∙ (let b = c.loop-number.invariant.built in omega arith);
      unclosed = counts.1 ∙ c.loop-number.invariant.unclosed;
      degrees = λ asks. subst (λ (b : Bool). IsTrue b) (sym c.in_ok-symbol-2.ensures.degrees) (c.loop-number.invariant.degrees asks);
      room = c.in_ok-symbol-2.ensures.room ∙ c.loop-number.invariant.room;
      came = came-on c.loop-number.number _ _ _ c.in_ok-symbol.ensures.fewer c.loop-number.invariant.came c.loop-number.invariant.first;
      first = λ none. absurd (omega arith);
      cost = λ linked.
          let before = c.loop-number.invariant.cost linked in
          let one = c.in_ok-symbol-2.ensures.cost (subst (λ (b : Bool). IsTrue b) (sym c.loop-number.invariant.linked) linked) in
          let eight = few_calls c.in_ok-symbol.symbol in
          omega arith;
    }

pub returns-in_err-symbol-2-clause-cost : goal.returns-in_err-symbol-2-clause-cost
returns-in_err-symbol-2-clause-cost g c = λ linked.
    let before = c.loop-number.invariant.cost linked in
    let four = c.in_err-symbol-2.ensures.refused (subst (λ (b : Bool). IsTrue b) (sym c.loop-number.invariant.linked) linked) in
    let drawn = came-on c.loop-number.number _ _ _ c.in_ok-symbol.ensures.fewer c.loop-number.invariant.came c.loop-number.invariant.first in
    let more = c.loop-number-test.true in
    omega arith

pub returns-clause-fed : goal.returns-clause-fed
returns-clause-fed g c = fed-end g.F.SymbolSource.gives c.args.count c.loop-number.number c.loop-number.source (g.R.Rebuild.state c.loop-number.machine) _ c.loop-number.invariant.told c.loop-number-test.false
