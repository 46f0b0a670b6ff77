-- A turn of the loop is a swing to the right.
use Rattle.std.proofs.Common.{◌≡◌, ℕ, suc, ◌-◌, ◌+◌, ◌*◌, sym, ap, ◌∙◌, arith}
use Rattle.corner_table.specs.Sides.{side_at}
use Rattle.corner_table.specs.Fans.{rightmost}
use Rattle.eb_trace.specs.Stored.{traced_gluing}
use Rattle.eb_trace.proofs.Tables.{right_ends, right_goes_on, right_none}
use Rattle.eb_trace.proofs.surface.Surface.rightmost.Goals as goal

pub returns-in-None-clause-corner : goal.returns-in-None-clause-corner
returns-in-None-clause-corner c = sym (c.loop-turn.invariant.same ∙ right_ends _ _ _ (sym c.in-None.ensures.corner))

pub loop-turn-preserved : goal.loop-turn-preserved
loop-turn-preserved c = record {
  within = c.in-Some.ensures.within;
  same =
      let n = 3 * c.args.self.now.faces in
      let test = c.loop-turn-test.true in
      let e : n - c.loop-turn.turn ≡ suc (n - (c.loop-turn.turn + 1)) = omega arith in
      c.loop-turn.invariant.same ∙ ap (λ (k : ℕ). rightmost (traced_gluing c.args.self.now) k (side_at c.loop-turn.at)) e ∙ right_goes_on _ _ _ _ (sym c.in-Some.ensures.corner);
}

pub returns-clause-corner : goal.returns-clause-corner
returns-clause-corner c =
    let n = 3 * c.args.self.now.faces in
    let test = c.loop-turn-test.false in
    let e : n - c.loop-turn.turn ≡ 0 = omega arith in
    sym (c.loop-turn.invariant.same ∙ ap (λ (k : ℕ). rightmost (traced_gluing c.args.self.now) k (side_at c.loop-turn.at)) e ∙ right_none _ _)
