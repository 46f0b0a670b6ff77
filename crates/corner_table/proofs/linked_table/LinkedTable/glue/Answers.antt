-- Gluing: the neighbours' links are in range, and the new links are those of the new boundary.
use Rattle.std.proofs.Common.{sym, subst, arith}
use Rattle.corner_table.specs.Table.{Table, side_of, IsFreeIn}
use Rattle.corner_table.proofs.TableSteps.{links_glued, next_within, previous_within}
use Rattle.corner_table.proofs.linked_table.LinkedTable.glue.Goals as goal

pub relink-requires-clause-next_a : goal.relink-requires-clause-next_a
relink-requires-clause-next_a g c =
    let free = subst (λ (t : Table). IsFreeIn t (side_of c.args.a)) (sym c.self.view_is) c.requires.first in
    rw c.number_of-first.ensures.number (let h = next_within c.self.invariant.0 (side_of c.args.a) free in omega arith)

pub relink-requires-clause-next_b : goal.relink-requires-clause-next_b
relink-requires-clause-next_b g c =
    let free = subst (λ (t : Table). IsFreeIn t (side_of c.args.b)) (sym c.self.view_is) c.requires.second in
    rw c.number_of-second.ensures.number (let h = next_within c.self.invariant.0 (side_of c.args.b) free in omega arith)

pub relink-requires-clause-previous_a : goal.relink-requires-clause-previous_a
relink-requires-clause-previous_a g c =
    let free = subst (λ (t : Table). IsFreeIn t (side_of c.args.a)) (sym c.self.view_is) c.requires.first in
    rw c.number_of-first.ensures.number (let h = previous_within c.self.invariant.0 (side_of c.args.a) free in omega arith)

pub relink-requires-clause-previous_b : goal.relink-requires-clause-previous_b
relink-requires-clause-previous_b g c =
    let free = subst (λ (t : Table). IsFreeIn t (side_of c.args.b)) (sym c.self.view_is) c.requires.second in
    rw c.number_of-second.ensures.number (let h = previous_within c.self.invariant.0 (side_of c.args.b) free in omega arith)

pub invariant_of-self : goal.invariant_of-self
invariant_of-self g c =
    let first = subst (λ (t : Table). IsFreeIn t (side_of c.args.a)) (sym c.self.view_is) c.requires.first in
    let second = subst (λ (t : Table). IsFreeIn t (side_of c.args.b)) (sym c.self.view_is) c.requires.second in
    rw (c.pair.ensures.faces, c.relink.ensures.after, c.relink.ensures.before, c.number_of-first.ensures.number, c.number_of-second.ensures.number) (
      links_glued (side_of c.args.a) (side_of c.args.b) c.self.invariant.0 first second c.requires.apart c.pair.ensures.entries c.pair.ensures.glued,
      (let e = c.pair.ensures.entries in let r = c.relink.ensures.after_room in let i = c.self.invariant.1 in omega arith),
      (let e = c.pair.ensures.entries in let r = c.relink.ensures.before_room in let i = c.self.invariant.2 in omega arith),
    )
