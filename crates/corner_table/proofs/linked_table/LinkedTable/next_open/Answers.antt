-- The link is the side that follows, which is the only one.
use Rattle.std.proofs.Common.{ℕ, sym, ap, subst, ◌∙◌, get_or}
use Rattle.corner_table.specs.Sides.{side_at}
use Rattle.corner_table.specs.Table.{Table, side_of, IsFreeIn}
use Rattle.corner_table.proofs.Boundary.{side_after-follows, side_after_only}
use Rattle.corner_table.proofs.TableSteps.{next_is}
use Rattle.corner_table.proofs.linked_table.LinkedTable.next_open.Goals as goal

pub returns-clause-next : goal.returns-clause-next
returns-clause-next g c =
    let free = subst (λ (t : Table). IsFreeIn t (side_of c.args.s)) (sym c.self.view_is) c.requires in
    rw (← c.self.view_is) (c.side_with.ensures.side ∙ ap side_at c.at.ensures.link ∙ ap (λ (n : ℕ). side_at (get_or c.self.inside.after.items n 0)) c.number_of.ensures.number ∙ next_is c.self.invariant.0 (side_of c.args.s) free)

pub returns-clause-follows : goal.returns-clause-follows
returns-clause-follows g c =
    let free = subst (λ (t : Table). IsFreeIn t (side_of c.args.s)) (sym c.self.view_is) c.requires in
    let is = c.side_with.ensures.side ∙ ap side_at c.at.ensures.link ∙ ap (λ (n : ℕ). side_at (get_or c.self.inside.after.items n 0)) c.number_of.ensures.number ∙ next_is c.self.invariant.0 (side_of c.args.s) free in
    rw (← c.self.view_is, is) (side_after-follows c.self.invariant.0.table.gluing (side_of c.args.s) free)

pub returns-clause-only : goal.returns-clause-only
returns-clause-only g c =
    let free = subst (λ (t : Table). IsFreeIn t (side_of c.args.s)) (sym c.self.view_is) c.requires in
    let is = c.side_with.ensures.side ∙ ap side_at c.at.ensures.link ∙ ap (λ (n : ℕ). side_at (get_or c.self.inside.after.items n 0)) c.number_of.ensures.number ∙ next_is c.self.invariant.0 (side_of c.args.s) free in
    rw (← c.self.view_is) (λ x F. side_after_only c.self.invariant.0.table.gluing (side_of c.args.s) x free F ∙ sym is)
