-- The row that ends where another starts is that of the free side before it.
use Rattle.std.proofs.Common.{◌≡◌, sym, ap, subst}
use Rattle.corner_table.specs.Sides.{side_at}
use Rattle.corner_table.specs.Fans.{side_before}
use Rattle.corner_table.specs.Table.{gluing_of}
use Rattle.eb_rebuild.specs.NamedTables.{NamedTable}
use Rattle.eb_rows.specs.Rowed.{IsRowIn, all_listed}
use Rattle.eb_rows.proofs.RowTables.{before_some, before_none}
use Rattle.eb_rows.proofs.named_table.NamedTable.row_before.Goals as goal

pub returns-in-Some-clause-row : goal.returns-in-Some-clause-row
returns-in-Some-clause-row c =
    let v : NamedTable = record { table = c.self.inside.table; triangles = c.self.inside.lists.triangles.items; rows = all_listed c.self.inside.lists.rows.items; made = c.self.inside.made } in
    subst (λ (w : NamedTable). IsRowIn w c.in-Some.found) c.self.view_is (before_some v c.self.invariant c.args.row c.in-Some.found (subst (λ (w : NamedTable). IsRowIn w c.args.row) (sym c.self.view_is) c.requires) c.as_slice.result.now (ap all_listed c.as_slice.ensures.value) (sym c.in-Some.ensures)).0

pub returns-in-Some-clause-before : goal.returns-in-Some-clause-before
returns-in-Some-clause-before c =
    let v : NamedTable = record { table = c.self.inside.table; triangles = c.self.inside.lists.triangles.items; rows = all_listed c.self.inside.lists.rows.items; made = c.self.inside.made } in
    subst (λ (w : NamedTable). side_at c.in-Some.found.side ≡ side_before w.table.faces (gluing_of w.table) (side_at c.args.row.side)) c.self.view_is
    (before_some v c.self.invariant c.args.row c.in-Some.found (subst (λ (w : NamedTable). IsRowIn w c.args.row) (sym c.self.view_is) c.requires) c.as_slice.result.now (ap all_listed c.as_slice.ensures.value) (sym c.in-Some.ensures)).1

pub returns-in-None-clause-before : goal.returns-in-None-clause-before
returns-in-None-clause-before c =
    let v : NamedTable = record { table = c.self.inside.table; triangles = c.self.inside.lists.triangles.items; rows = all_listed c.self.inside.lists.rows.items; made = c.self.inside.made } in
    subst (λ (w : NamedTable). side_at c.args.row.side ≡ side_before w.table.faces (gluing_of w.table) (side_at c.args.row.side)) c.self.view_is
    (before_none v c.self.invariant c.args.row (subst (λ (w : NamedTable). IsRowIn w c.args.row) (sym c.self.view_is) c.requires) c.as_slice.result.now (ap all_listed c.as_slice.ensures.value) (sym c.in-None.ensures)).1
