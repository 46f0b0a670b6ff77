-- A turn of the loop is a turn of the run.
use Rattle.std.proofs.Common.{◌≡◌, ℕ, suc, ◌+◌, ◌-◌, ◌*◌, ◌<◌, sym, subst, ◌∙◌, arith}
use Rattle.std.specs.Option.{IfSome}
use Rattle.eb_trace.specs.Stored.{noted_walk}
use Rattle.eb_trace.proofs.Marking.{entries_length}
use Rattle.eb_trace.proofs.Going.{turn_ends, turn_goes_on, turns_over, few_at_turn}
use Rattle.eb_trace.proofs.walk.run.Goals as goal

pub visit-requires-clause-few : goal.visit-requires-clause-few
visit-requires-clause-few c =
    let test = c.loop-turn-test.true in
    let n = c.args.s.now.faces in
    let e : n - c.loop-turn.turn ≡ suc (n - (c.loop-turn.turn + 1)) = omega arith in
    let few = few_at_turn _ _ _ _ (noted_walk c.loop-turn.notes) _ _ _ e c.loop-turn.invariant.same c.requires.few in
    let l = entries_length c.loop-turn.notes in
    omega arith

pub returns-in-None-clause-walk : goal.returns-in-None-clause-walk
returns-in-None-clause-walk c =
    let test = c.loop-turn-test.true in
    let n = c.args.s.now.faces in
    let e : n - c.loop-turn.turn ≡ suc (n - (c.loop-turn.turn + 1)) = omega arith in
    sym (c.loop-turn.invariant.same ∙ turn_ends _ _ _ _ _ _ _ c.in_ok-visit.field-0 e c.in_ok-visit.ensures.walk c.in-None.is)

pub loop-turn-preserved : goal.loop-turn-preserved
loop-turn-preserved c =
    let test = c.loop-turn-test.true in
    let n = c.args.s.now.faces in
    let e : n - c.loop-turn.turn ≡ suc (n - (c.loop-turn.turn + 1)) = omega arith in
    record {
      within = subst (λ (o : _). IfSome o (λ (k : ℕ). k < 3 * c.args.s.now.faces)) c.in-Some.is c.in_ok-visit.ensures.within;
      stored = c.in_ok-visit.ensures.stored;
      same = c.loop-turn.invariant.same ∙ turn_goes_on _ _ _ _ _ _ _ c.in_ok-visit.field-0 c.in-Some.next e c.in_ok-visit.ensures.walk c.in-Some.is;
    }

pub returns-clause-walk : goal.returns-clause-walk
returns-clause-walk c =
    let test = c.loop-turn-test.false in
    let n = c.args.s.now.faces in
    let e : n - c.loop-turn.turn ≡ 0 = omega arith in
    sym (c.loop-turn.invariant.same ∙ turns_over _ _ _ _ _ e)
