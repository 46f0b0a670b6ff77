-- A turn of the loop is a visit.
use Rattle.std.proofs.Common.{◌≡◌, ℕ, suc, ◌+◌, ◌-◌, ◌*◌, ◌<◌, sym, subst, ◌∙◌, arith}
use Rattle.std.specs.Option.{IfSome}
use Rattle.walk_order.proofs.Ranking.{turn_ends, turn_goes_on, turns_over}
use Rattle.walk_order.proofs.degree_walk.Ranks.visits.Goals as goal

pub returns-in-None-clause-visits : goal.returns-in-None-clause-visits
returns-in-None-clause-visits c =
    let test = c.loop-turn-test.true in
    let n = c.args.s.now.faces in
    let e : n - c.loop-turn.turn ≡ suc (n - (c.loop-turn.turn + 1)) = omega arith in
    sym (c.loop-turn.invariant.same ∙ turn_ends _ _ _ _ _ _ _ c.in_ok-visit.field-0 e c.in_ok-visit.ensures.visit c.in-None.is)

pub loop-turn-preserved : goal.loop-turn-preserved
loop-turn-preserved c =
    let test = c.loop-turn-test.true in
    let n = c.args.s.now.faces in
    let e : n - c.loop-turn.turn ≡ suc (n - (c.loop-turn.turn + 1)) = omega arith in
    record {
      within = subst (λ (o : _). IfSome o (λ (k : ℕ). k < 3 * c.args.s.now.faces)) c.in-Some.is c.in_ok-visit.ensures.within;
      stored = c.in_ok-visit.ensures.stored;
      same = c.loop-turn.invariant.same ∙ turn_goes_on _ _ _ _ _ _ _ c.in_ok-visit.field-0 c.in-Some.next e c.in_ok-visit.ensures.visit c.in-Some.is;
    }

pub returns-clause-visits : goal.returns-clause-visits
returns-clause-visits c =
    let test = c.loop-turn-test.false in
    let n = c.args.s.now.faces in
    let e : n - c.loop-turn.turn ≡ 0 = omega arith in
    sym (c.loop-turn.invariant.same ∙ turns_over _ _ _ _ _ e)
