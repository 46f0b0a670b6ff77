-- The row is free, and the names and rows fit the new face.
use Rattle.std.proofs.Common.{ℕ, [], ◌∷◌, ◌++◌, sym, ap, ◌∙◌, subst, arith}
use Rattle.corner_table.specs.Sides.{Place, first, side, side_at, glue}
use Rattle.corner_table.specs.Table.{gluing_of}
use Rattle.eb_machine.specs.Beside.{free_place, new_triangle}
use Rattle.eb_machine.specs.Named.{Triangle, without, new_row}
use Rattle.eb_rebuild.specs.NamedTables.{NamedTable}
use Rattle.eb_rows.specs.Rowed.{IsRowIn, all_listed}
use Rattle.eb_rows.proofs.RowTables.{beside_table}
use Rattle.eb_rows.proofs.named_table.NamedTable.add_beside.Goals as goal

pub add_one-requires-clause-free : goal.add_one-requires-clause-free
add_one-requires-clause-free g c = (subst (λ (w : NamedTable). IsRowIn w c.args.a) (sym c.self.view_is) c.requires.row).free

pub invariant_of-self : goal.invariant_of-self
invariant_of-self g c =
    let v : NamedTable = record { table = c.self.inside.table; triangles = c.self.inside.lists.triangles.items; rows = all_listed c.self.inside.lists.rows.items; made = c.self.inside.made } in
    let a = c.args.a in
    let t : Triangle = new_triangle c.args.beside a.from a.to c.self.inside.made in
    beside_table c.args.beside v c.self.invariant a (subst (λ (w : NamedTable). IsRowIn w a) (sym c.self.view_is) c.requires.row) c.add_one.new.table c.in_ok-lists.lists.triangles.items (all_listed c.in_ok-lists.lists.rows.items)
    (record {
      faces = c.add_one.ensures.faces;
      glued = c.add_one.ensures.glued ∙ ap (λ (k : Place). glue (side v.table.faces k) (side_at a.side) (gluing_of v.table)) c.glued.ensures.place;
      few = omega arith;
    })
    c.in_ok-lists.ensures.triangles
    (c.in_ok-lists.ensures.rows ∙ ap (λ (n : ℕ). without (side_at a.side) v.rows ++ (new_row n t first ∷ new_row n t (free_place c.args.beside) ∷ [])) c.face_count-face.ensures.count)
