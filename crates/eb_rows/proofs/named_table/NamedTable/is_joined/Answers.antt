-- Two ends have one name where one side comes before the other.
use Rattle.std.proofs.Common.{◌≡◌, ◌==◌, sym, subst}
use Rattle.corner_table.specs.Sides.{side_at, same}
use Rattle.corner_table.specs.Fans.{side_before}
use Rattle.corner_table.specs.Table.{gluing_of}
use Rattle.eb_rebuild.specs.NamedTables.{NamedTable}
use Rattle.eb_rows.specs.Rowed.{IsRowIn, all_listed}
use Rattle.eb_rows.proofs.RowTables.{joined_is}
use Rattle.eb_rows.proofs.named_table.NamedTable.is_joined.Goals as goal

pub returns : goal.returns
returns c =
    let v : NamedTable = record { table = c.self.inside.table; triangles = c.self.inside.lists.triangles.items; rows = all_listed c.self.inside.lists.rows.items; made = c.self.inside.made } in
    subst (λ (w : NamedTable). (c.args.b.from == c.args.a.to) ≡ same (side_before w.table.faces (gluing_of w.table) (side_at c.args.b.side)) (side_at c.args.a.side)) c.self.view_is
    (joined_is v c.self.invariant c.args.b c.args.a (subst (λ (w : NamedTable). IsRowIn w c.args.b) (sym c.self.view_is) c.requires.first) (subst (λ (w : NamedTable). IsRowIn w c.args.a) (sym c.self.view_is) c.requires.second))
