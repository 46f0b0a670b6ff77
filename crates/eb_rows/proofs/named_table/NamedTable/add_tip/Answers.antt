-- The rows are free, and the names and rows fit the new face.
use Rattle.std.proofs.Common.{◌≡◌, ℕ, [], ◌∷◌, ◌++◌, sym, ap, ◌∙◌, subst, arith}
use Rattle.corner_table.specs.Sides.{first, side_at}
use Rattle.corner_table.specs.Fans.{side_before}
use Rattle.corner_table.specs.Table.{gluing_of}
use Rattle.eb_machine.specs.Named.{Triangle, without, new_row}
use Rattle.eb_rebuild.specs.NamedTables.{NamedTable}
use Rattle.eb_rows.specs.Rowed.{IsRowIn, all_listed}
use Rattle.eb_rows.proofs.RowTables.{tip_table}
use Rattle.eb_rows.proofs.named_table.NamedTable.add_tip.Goals as goal

pub add_two-requires-clause-apart : goal.add_two-requires-clause-apart
add_two-requires-clause-apart g c = (
  (subst (λ (w : NamedTable). IsRowIn w c.args.b) (sym c.self.view_is) c.requires.second).free,
  (c.requires.apart, tt),
  ((λ q. (cc)), tt),
  ((subst (λ (w : NamedTable). IsRowIn w c.args.a) (sym c.self.view_is) c.requires.first).free, tt, tt, tt),
)

pub invariant_of-self : goal.invariant_of-self
invariant_of-self g c =
    let v : NamedTable = record { table = c.self.inside.table; triangles = c.self.inside.lists.triangles.items; rows = all_listed c.self.inside.lists.rows.items; made = c.self.inside.made } in
    let a = c.args.a in
    let b = c.args.b in
    let t : Triangle = (a.from, b.from, a.to) in
    tip_table v c.self.invariant a b (subst (λ (w : NamedTable). IsRowIn w a) (sym c.self.view_is) c.requires.first) (subst (λ (w : NamedTable). IsRowIn w b) (sym c.self.view_is) c.requires.second) c.requires.apart
    (subst (λ (w : NamedTable). side_at b.side ≡ side_before w.table.faces (gluing_of w.table) (side_at a.side)) (sym c.self.view_is) c.requires.joined)
    c.add_two.new.table c.in_ok-lists.lists.triangles.items (all_listed c.in_ok-lists.lists.rows.items)
    (record { faces = c.add_two.ensures.faces; glued = c.add_two.ensures.glued; few = omega arith })
    c.in_ok-lists.ensures.triangles
    (c.in_ok-lists.ensures.rows ∙ ap (λ (n : ℕ). without (side_at b.side) (without (side_at a.side) v.rows) ++ (new_row n t first ∷ [])) c.face_count-face.ensures.count)
