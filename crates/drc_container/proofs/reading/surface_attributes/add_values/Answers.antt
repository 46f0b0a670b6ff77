use Rattle.drc_container.proofs.lemmas.reading.AsRead.{tables-together, tables-joined, vertices-joined, vertices-more}
use Rattle.drc_container.proofs.reading.surface_attributes.add_values.Goals as goal

pub returns-then-stand_together-clause-tables : goal.returns-then-stand_together-clause-tables
returns-then-stand_together-clause-tables c = λ whole.
    let last = c.in-Some.last in
    let same = c.stand_together.ensures.0 c.if-stand_together.true in
    let made = c.in_ok-joined.ensures in
    let both = tables-together whole last c.args.values c.in_ok-joined.field-0 made.cut made.entries same.0 same.1 made.values in
    rw (c.in_ok-push-2.ensures.items, c.in-Some.ensures.items) (tables-joined whole c.pop.new.self.items last c.args.values c.in_ok-joined.field-0 both)

pub returns-then-stand_together-clause-vertices : goal.returns-then-stand_together-clause-vertices
returns-then-stand_together-clause-vertices c = λ whole corners each has.
    let made = c.in_ok-joined.ensures in
    rw c.in_ok-push-2.ensures.items (vertices-joined corners whole c.pop.new.self.items c.in-Some.last c.in_ok-joined.field-0 made.cut made.entries (rw c.in-Some.ensures.items at each))

pub returns-clause-vertices : goal.returns-clause-vertices
returns-clause-vertices c = λ whole corners each has.
    rw c.in_ok-push-4.ensures.items
    (vertices-more corners whole c.push-2.new.self.items c.args.values (rw (c.in_ok-push-3.ensures.items) (rw c.in-Some.ensures.items at each)) has)
