-- A pair: the entries are those of a table, and its gluing has the new pair.
use Rattle.std.proofs.Common.{sym, subst, arith}
use Rattle.corner_table.specs.Table.{Table, side_of, IsFreeIn}
use Rattle.corner_table.proofs.Places.{face_apart}
use Rattle.corner_table.proofs.TableSteps.{table_glued, glued_in-set}
use Rattle.corner_table.proofs.side_table.SideTable.pair.Goals as goal

pub invariant_of-self : goal.invariant_of-self
invariant_of-self c =
    let first = subst (λ (t : Table). IsFreeIn t (side_of c.args.a)) (sym c.self.view_is) c.requires.first in
    let second = subst (λ (t : Table). IsFreeIn t (side_of c.args.b)) (sym c.self.view_is) c.requires.second in
    rw (c.put-2.ensures.items, c.put.ensures.items, c.number_of-first.ensures.number, c.number_of-second.ensures.number) (table_glued (side_of c.args.a) (side_of c.args.b) c.self.invariant first second c.requires.apart)

pub returns-clause-glued : goal.returns-clause-glued
returns-clause-glued c =
    let first = subst (λ (t : Table). IsFreeIn t (side_of c.args.a)) (sym c.self.view_is) c.requires.first in
    let second = subst (λ (t : Table). IsFreeIn t (side_of c.args.b)) (sym c.self.view_is) c.requires.second in
    rw (← c.self.view_is, c.put-2.ensures.items, c.put.ensures.items, c.number_of-first.ensures.number, c.number_of-second.ensures.number)
    (glued_in-set c.self.inside.across.items (side_of c.args.a) (side_of c.args.b) c.self.inside.faces first.within second.within
    (face_apart (side_of c.args.a) (side_of c.args.b) c.requires.apart) c.self.invariant.fits (omega arith))
