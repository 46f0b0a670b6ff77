-- Each side is closed by the next bit; the first fault is that of the whole.
use Rattle.std.proofs.Common.{◌≡◌, ◌+◌, ◌<◌, ◌∙◌, Bool, IsTrue, Ok, length, ap, sym, subst, refl, arith, add-one}
use Rattle.std.proofs.lemmas.Result.{err_from_is_err_and}
use Rattle.rans_binary.specs.Blocks.{bit_of, after_bit}
use Rattle.eb_machine.specs.Machine.{State, Plan, close}
use Rattle.eb_section.proofs.Runs.{closes-next, closes-refused, closes-end, moves-err, close_counted, bit-drawn, closed-cost, closed-built}
use Rattle.eb_section.proofs.rebuilding.close_sides.Goals as goal

pub returns-in_err-close-clause-closed : goal.returns-in_err-close-clause-closed
returns-in_err-close-clause-closed g c =
    let p = err_from_is_err_and c.from_residual.result c.from_residual.ensures.1 in
    let s : State = g.R.Rebuild.state c.loop-number.machine in
    let bit = bit-drawn c.loop-number.starts c.args.starts c.loop-number.number s.closes c.next-interior.result c.loop-number.invariant.bits c.loop-number.invariant.closes c.next-interior.ensures.bit in
    rw (p.1, p.2) (moves-err _ (g.R.Rebuild.state c.close.new.self) (g.R.Rebuild.live c.close.new.self) c.in_err-close.field-0.0 _ c.in_err-close.ensures.moves
    (λ f refused. closes-refused (g.R.Rebuild.plan c.args.machine) (bit_of c.args.starts) c.pending-waiting.result c.loop-number.number s f _ c.loop-number.invariant.told c.loop-number-test.true
    (ap (λ (q : Plan). close q (bit_of c.args.starts s.closes) s) (sym c.loop-number.invariant.plan) ∙ ap (λ (b : Bool). close (g.R.Rebuild.plan c.loop-number.machine) b s) (sym bit) ∙ refused)))

pub loop-number-preserved : goal.loop-number-preserved
loop-number-preserved g c =
    let s : State = g.R.Rebuild.state c.loop-number.machine in
    let t : State = g.R.Rebuild.state c.close.new.self in
    let p : Plan = g.R.Rebuild.plan c.args.machine in
    let bit = bit-drawn c.loop-number.starts c.args.starts c.loop-number.number s.closes c.next-interior.result c.loop-number.invariant.bits c.loop-number.invariant.closes c.next-interior.ensures.bit in
    let closed : close p c.next-interior.result s ≡ Ok t = ap (λ (q : Plan). close q c.next-interior.result s) (sym c.loop-number.invariant.plan) ∙ c.in_ok-close.ensures.moves.0 in
    let some : 0 < length s.stack = omega (arith, c.loop-number.invariant.waiting, c.loop-number-test.true) in
    let counts = close_counted p c.next-interior.result s t closed some in
    let linked_before = λ (linked : IsTrue (g.R.Rebuild.linked c.args.machine)). subst (λ (b : Bool). IsTrue b) (sym c.loop-number.invariant.linked) linked in
    let faces = closed-built p c.next-interior.result s t counts in
    record {
      told = closes-next p (bit_of c.args.starts) c.pending-waiting.result c.loop-number.number s t _ c.loop-number.invariant.told c.loop-number-test.true
          (ap (λ (b : Bool). close p b s) (sym bit) ∙ closed);
      live = c.in_ok-close.ensures.moves.1;
      plan = c.in_ok-close.ensures.plan ∙ c.loop-number.invariant.plan;
      linked = c.in_ok-close.ensures.linked ∙ c.loop-number.invariant.linked;
      bits = c.next-interior.ensures.after ∙ ap after_bit c.loop-number.invariant.bits ∙ (rw add-one refl);
      closes = counts.closes ∙ ap (λ k. k + 1) c.loop-number.invariant.closes;
      waiting = (let w = counts.waiting in let v = c.loop-number.invariant.waiting in omega arith);
      grown = (let v = c.loop-number.invariant.grown in let w = faces.0 in omega arith);
      slow = (let v = c.loop-number.invariant.slow in let w = faces.2 in omega arith);
      few = c.loop-number.invariant.few;
      room = c.in_ok-close.ensures.room ∙ c.loop-number.invariant.room;
      within = faces.1 c.loop-number.invariant.within;
      cost = λ linked. closed-cost p c.next-interior.result s t _ _ _ _ counts (c.loop-number.invariant.cost linked)
          (c.in_ok-close.ensures.cost (linked_before linked)) (c.in_ok-close.ensures.none (linked_before linked));
      same = λ none. absurd (let n = none in let v = c.loop-number-test.true in omega arith);
    }

pub returns-clause-closed : goal.returns-clause-closed
returns-clause-closed g c = closes-end (g.R.Rebuild.plan c.args.machine) (bit_of c.args.starts) c.pending-waiting.result c.loop-number.number (g.R.Rebuild.state c.loop-number.machine) _ c.loop-number.invariant.told c.loop-number-test.false
