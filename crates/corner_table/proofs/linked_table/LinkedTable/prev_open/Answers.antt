-- The link is the side before, which is the only one.
use Rattle.std.proofs.Common.{ℕ, sym, ap, subst, ◌∙◌, get_or}
use Rattle.corner_table.specs.Sides.{side_at}
use Rattle.corner_table.specs.Table.{Table, side_of, IsFreeIn}
use Rattle.corner_table.proofs.Boundary.{side_before-follows, side_before_only}
use Rattle.corner_table.proofs.TableSteps.{previous_is}
use Rattle.corner_table.proofs.linked_table.LinkedTable.prev_open.Goals as goal

pub returns-clause-previous : goal.returns-clause-previous
returns-clause-previous g c =
    let free = subst (λ (t : Table). IsFreeIn t (side_of c.args.s)) (sym c.self.view_is) c.requires in
    rw (← c.self.view_is) (c.side_with.ensures.side ∙ ap side_at c.at.ensures.link ∙ ap (λ (n : ℕ). side_at (get_or c.self.inside.before.items n 0)) c.number_of.ensures.number ∙ previous_is c.self.invariant.0 (side_of c.args.s) free)

pub returns-clause-free : goal.returns-clause-free
returns-clause-free g c =
    let free = subst (λ (t : Table). IsFreeIn t (side_of c.args.s)) (sym c.self.view_is) c.requires in
    let is = c.side_with.ensures.side ∙ ap side_at c.at.ensures.link ∙ ap (λ (n : ℕ). side_at (get_or c.self.inside.before.items n 0)) c.number_of.ensures.number ∙ previous_is c.self.invariant.0 (side_of c.args.s) free in
    rw (← c.self.view_is, is) (side_before-follows c.self.invariant.0.table.gluing (side_of c.args.s) free).0

pub returns-clause-follows : goal.returns-clause-follows
returns-clause-follows g c =
    let free = subst (λ (t : Table). IsFreeIn t (side_of c.args.s)) (sym c.self.view_is) c.requires in
    let is = c.side_with.ensures.side ∙ ap side_at c.at.ensures.link ∙ ap (λ (n : ℕ). side_at (get_or c.self.inside.before.items n 0)) c.number_of.ensures.number ∙ previous_is c.self.invariant.0 (side_of c.args.s) free in
    rw (← c.self.view_is, is) (side_before-follows c.self.invariant.0.table.gluing (side_of c.args.s) free).1

pub returns-clause-only : goal.returns-clause-only
returns-clause-only g c =
    let free = subst (λ (t : Table). IsFreeIn t (side_of c.args.s)) (sym c.self.view_is) c.requires in
    let is = c.side_with.ensures.side ∙ ap side_at c.at.ensures.link ∙ ap (λ (n : ℕ). side_at (get_or c.self.inside.before.items n 0)) c.number_of.ensures.number ∙ previous_is c.self.invariant.0 (side_of c.args.s) free in
    rw (← c.self.view_is) (λ x X F. side_before_only c.self.invariant.0.table.gluing x (side_of c.args.s) X F ∙ sym is)
