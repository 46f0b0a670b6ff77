-- The rows are free and apart, and the names and rows fit the new face.
use Rattle.std.proofs.Common.{sym, ap, ◌∙◌, subst, arith}
use Rattle.corner_table.specs.Sides.{side, first, second, third, side_at, glue}
use Rattle.corner_table.specs.Table.{gluing_of}
use Rattle.eb_rebuild.specs.NamedTables.{NamedTable}
use Rattle.eb_rows.specs.Rowed.{IsThree, all_listed}
use Rattle.eb_rows.proofs.RowTables.{fill_table, three_apart}
use Rattle.eb_rows.proofs.named_table.NamedTable.fill.Goals as goal

pub add_three-requires-clause-apart : goal.add_three-requires-clause-apart
add_three-requires-clause-apart g c =
    let v : NamedTable = record { table = c.self.inside.table; triangles = c.self.inside.lists.triangles.items; rows = all_listed c.self.inside.lists.rows.items; made = c.self.inside.made } in
    let T : IsThree v c.args.a c.args.b c.args.c = subst (λ (w : NamedTable). IsThree w c.args.a c.args.b c.args.c) (sym c.self.view_is) c.requires.rows in (
      T.three.free,
      (three_apart T, (T.apart_again, tt)),
      ((λ q. (cc)), ((λ q. (cc)), tt)),
      (T.two.free, (T.apart, tt), ((λ q. (cc)), tt), (T.one.free, tt, tt, tt)),
    )

pub invariant_of-self : goal.invariant_of-self
invariant_of-self g c =
    let v : NamedTable = record { table = c.self.inside.table; triangles = c.self.inside.lists.triangles.items; rows = all_listed c.self.inside.lists.rows.items; made = c.self.inside.made } in
    fill_table v c.self.invariant c.args.a c.args.b c.args.c (subst (λ (w : NamedTable). IsThree w c.args.a c.args.b c.args.c) (sym c.self.view_is) c.requires.rows)
    c.add_three.new.table c.in_ok-lists.lists.triangles.items (all_listed c.in_ok-lists.lists.rows.items)
    (record { faces = c.add_three.ensures.faces; glued = c.add_three.ensures.glued; few = omega arith })
    c.in_ok-lists.ensures.triangles c.in_ok-lists.ensures.rows

pub returns-clause-glued : goal.returns-clause-glued
returns-clause-glued g c =
    c.add_three.ensures.glued
    ∙ ap (λ (w : NamedTable). glue (side w.table.faces third) (side_at c.args.c.side) (glue (side w.table.faces second) (side_at c.args.b.side) (glue (side w.table.faces first) (side_at c.args.a.side) (gluing_of w.table)))) c.self.view_is
