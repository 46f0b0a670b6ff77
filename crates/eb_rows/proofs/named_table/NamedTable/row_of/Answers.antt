-- The list has the row of a side exactly where it is free.
use Rattle.std.proofs.Common.{◌*◌, ◌<◌, sym, ap, subst}
use Rattle.corner_table.specs.Sides.{side_at}
use Rattle.eb_rebuild.specs.NamedTables.{NamedTable}
use Rattle.eb_rows.specs.Rowed.{IsRowIn, IsGluedIn, all_listed}
use Rattle.eb_rows.proofs.RowTables.{found_row, no_row_found}
use Rattle.eb_rows.proofs.named_table.NamedTable.row_of.Goals as goal

pub returns-in-Some-clause-side : goal.returns-in-Some-clause-side
returns-in-Some-clause-side c =
    let v : NamedTable = record { table = c.self.inside.table; triangles = c.self.inside.lists.triangles.items; rows = all_listed c.self.inside.lists.rows.items; made = c.self.inside.made } in
    (found_row v c.self.invariant c.args.side (subst (λ (w : NamedTable). c.args.side < 3 * w.table.faces) (sym c.self.view_is) c.requires) c.as_slice.result.now (ap all_listed c.as_slice.ensures.value) c.in-Some.row (sym c.in-Some.ensures)).0

pub returns-in-Some-clause-row : goal.returns-in-Some-clause-row
returns-in-Some-clause-row c =
    let v : NamedTable = record { table = c.self.inside.table; triangles = c.self.inside.lists.triangles.items; rows = all_listed c.self.inside.lists.rows.items; made = c.self.inside.made } in
    subst (λ (w : NamedTable). IsRowIn w c.in-Some.row) c.self.view_is
    (found_row v c.self.invariant c.args.side (subst (λ (w : NamedTable). c.args.side < 3 * w.table.faces) (sym c.self.view_is) c.requires) c.as_slice.result.now (ap all_listed c.as_slice.ensures.value) c.in-Some.row (sym c.in-Some.ensures)).1

pub returns-in-None-clause-none : goal.returns-in-None-clause-none
returns-in-None-clause-none c =
    let v : NamedTable = record { table = c.self.inside.table; triangles = c.self.inside.lists.triangles.items; rows = all_listed c.self.inside.lists.rows.items; made = c.self.inside.made } in
    subst (λ (w : NamedTable). IsGluedIn w.table (side_at c.args.side)) c.self.view_is
    (no_row_found v c.self.invariant c.args.side (subst (λ (w : NamedTable). c.args.side < 3 * w.table.faces) (sym c.self.view_is) c.requires) c.as_slice.result.now (ap all_listed c.as_slice.ensures.value) (sym c.in-None.ensures))
