-- The machine takes each symbol, and it is noted before.
use Rattle.std.proofs.Common.{◌≡◌, ◌-◌, ◌+◌, ◌∙◌, ℕ, ap, sym, subst, arith, Bool, IsTrue, Err, slice_index_or}
use Rattle.corner_table.specs.declared.symbols.Symbol.{Symbol}
use Rattle.corner_table.specs.declared.symbols.Symbol.TheVariants.{C}
use Rattle.eb_machine.specs.Machine.{State, Plan, step}
use Rattle.eb_machine.proofs.Counts.{step_counts}
use Rattle.eb_rebuild.specs.Rebuilding.{Moves}
use Rattle.eb_valence.proofs.Noted.{word_at, called, takes_on, told_on, told_all, takes_first}
use Rattle.eb_valence.proofs.noting.note_all.Goals as goal

pub loop-number-preserved : goal.loop-number-preserved
loop-number-preserved g c =
    let s : State = g.R.Rebuild.state c.loop-number.machine in
    let t : State = g.R.Rebuild.state c.symbol.new.self in
    let x : Symbol = slice_index_or c.args.symbols.now (c.loop-number.number - 1) C in
    let w = word_at c.args.symbols.now c.loop-number.number C c.loop-number-test.true c.loop-number.invariant.within in
    let stepped = ap (λ m. step m x s) (sym c.loop-number.invariant.all) ∙ c.in-Ok.ensures.moves.0 in
    let counts = step_counts _ x s t stepped in
    let one : t.built ≡ s.built + 1 = counts.0 ∙ omega arith in
    record {
      live = c.in-Ok.ensures.moves.1;
      linked = subst (λ (b : Bool). IsTrue b) (sym c.in-Ok.ensures.linked) c.loop-number.invariant.linked;
      unclosed = counts.1 ∙ c.loop-number.invariant.unclosed;
      degrees = subst (λ (b : Bool). IsTrue b) (sym c.in-Ok.ensures.degrees) c.loop-number.invariant.degrees;
      all = ap (λ (p : Plan). p.symbols) c.in-Ok.ensures.plan ∙ c.loop-number.invariant.all;
      room = c.in-Ok.ensures.room ∙ c.loop-number.invariant.room;
      within = omega (arith, c.loop-number.invariant.within);
      built = omega (arith, one, c.loop-number.invariant.built, c.loop-number-test.true);
      takes = takes_on _ _ _ x s t w stepped c.loop-number.invariant.takes;
      told = told_on _ _ _ x s t _ _ _ w stepped c.in_ok-note.ensures c.loop-number.invariant.told;
      cost = (
          let first = called c.args.symbols.now c.loop-number.number C c.loop-number-test.true c.loop-number.invariant.within in
          let one = c.in-Ok.ensures.cost c.loop-number.invariant.linked in
          let before = c.loop-number.invariant.cost in omega arith
          );
    }

pub unreachable-requires : goal.unreachable-requires
unreachable-requires g c =
    let s : State = g.R.Rebuild.state c.loop-number.machine in
    let new : State = g.R.Rebuild.state c.symbol.new.self in
    let live : Bool = g.R.Rebuild.live c.symbol.new.self in
    let x : Symbol = slice_index_or c.args.symbols.now (c.loop-number.number - 1) C in
    let w = word_at c.args.symbols.now c.loop-number.number C c.loop-number-test.true c.loop-number.invariant.within in
    let P : ℕ → Type 0 = λ m. Moves (step m x s) new live (Err c.in-Err.field-0) in
    takes_first _ _ _ x s new live c.in-Err.field-0 w c.loop-number.invariant.takes (subst P c.loop-number.invariant.all c.in-Err.ensures.moves)
    (c.in-Err.ensures.memory c.loop-number.invariant.linked)

pub returns-clause-lists : goal.returns-clause-lists
returns-clause-lists g c = told_all _ c.loop-number.number c.args.symbols.now (g.R.Rebuild.state c.loop-number.machine) _ _ (omega (arith, c.loop-number-test.false)) c.loop-number.invariant.told
