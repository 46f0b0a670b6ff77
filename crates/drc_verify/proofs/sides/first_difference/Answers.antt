use Rattle.std.proofs.Common.{◌≡◌, true, sym, ◌∙◌, arith}
use borrow.Author.Count.{below_more}
use Rattle.corner_table.specs.Sides.{side_at}
use Rattle.corner_table.specs.Table.{glued_in}
use Rattle.drc_verify.specs.SideTests.{same_partner, is_glued_alike}
use Rattle.drc_verify.proofs.FirstsFound.{first_failing-all, first_failing-at}
use Rattle.drc_verify.proofs.sides.first_difference.Goals as goal

pub returns-then-not-is_alike : goal.returns-then-not-is_alike
returns-then-not-is_alike c =
    sym (first_failing-at (is_glued_alike (glued_in c.args.a.now) (glued_in c.args.b.now)) c.args.sides c.loop-side.side c.loop-side-test.true
    c.loop-side.invariant (sym c.is_alike.ensures ∙ c.if-not-is_alike.true))

pub loop-side-preserved : goal.loop-side-preserved
loop-side-preserved c =
    below_more (λ k. same_partner (glued_in c.args.a.now (side_at k)) (glued_in c.args.b.now (side_at k)) ≡ true) c.loop-side.side
    c.loop-side.invariant (sym c.is_alike.ensures ∙ c.if-not-is_alike.false)

pub returns : goal.returns
returns c =
    sym (first_failing-all (is_glued_alike (glued_in c.args.a.now) (glued_in c.args.b.now)) c.args.sides (λ s below.
    c.loop-side.invariant s (omega (arith, c.loop-side-test.false))))
