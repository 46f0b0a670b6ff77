-- The entries of the new table are the carried ones.
use Rattle.std.proofs.Common.{sym, ap, ◌∙◌}
use Rattle.corner_table.specs.Table.{Table}
use Rattle.corner_table.proofs.CarriedLists.{renumbered_from, table_carried, gluing_carried}
use Rattle.corner_table.proofs.side_table.SideTable.renumbered.Goals as goal

pub invariant_of-result : goal.invariant_of-result
invariant_of-result g c =
    let now = ap (λ (t : Table). t.faces) c.self.view_is in
    let n = c.face_count-faces.ensures.count in
    let made = renumbered_from c.self.invariant now n c.requires c.in_ok-places.ensures c.in_ok-entries.ensures in
    rw (n ∙ sym now, c.from_vec-across.ensures) (table_carried made)

pub returns-clause-carried : goal.returns-clause-carried
returns-clause-carried g c =
    let now = ap (λ (t : Table). t.faces) c.self.view_is in
    let n = c.face_count-faces.ensures.count in
    let made = renumbered_from c.self.invariant now n c.requires c.in_ok-places.ensures c.in_ok-entries.ensures in
    rw (← c.self.view_is, c.from_vec-across.ensures) (gluing_carried made)
