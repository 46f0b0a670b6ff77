-- The rows are free, and the names and rows fit the new face.
use Rattle.std.proofs.Common.{ℕ, [], ◌∷◌, ◌++◌, map, sym, ap, ◌∙◌, subst, arith}
use Rattle.corner_table.specs.Sides.{first, side_at}
use Rattle.eb_machine.specs.Named.{Triangle, without, new_row, renamed, renamed_row}
use Rattle.eb_rebuild.specs.NamedTables.{NamedTable}
use Rattle.eb_rows.specs.Rowed.{IsRowIn, all_listed}
use Rattle.eb_rows.proofs.RowTables.{split_table}
use Rattle.eb_rows.proofs.named_table.NamedTable.add_split.Goals as goal

pub add_two-requires-clause-apart : goal.add_two-requires-clause-apart
add_two-requires-clause-apart g c = (
  (subst (λ (w : NamedTable). IsRowIn w c.args.b) (sym c.self.view_is) c.requires.first).free,
  (c.requires.apart, tt),
  ((λ q. (cc)), tt),
  ((subst (λ (w : NamedTable). IsRowIn w c.args.a) (sym c.self.view_is) c.requires.second).free, tt, tt, tt),
)

pub invariant_of-self : goal.invariant_of-self
invariant_of-self g c =
    let v : NamedTable = record { table = c.self.inside.table; triangles = c.self.inside.lists.triangles.items; rows = all_listed c.self.inside.lists.rows.items; made = c.self.inside.made } in
    let a = c.args.a in
    let b = c.args.b in
    let r = renamed b.from a.to in
    let t : Triangle = (r a.to, r a.from, r b.to) in
    split_table v c.self.invariant b a (subst (λ (w : NamedTable). IsRowIn w b) (sym c.self.view_is) c.requires.first) (subst (λ (w : NamedTable). IsRowIn w a) (sym c.self.view_is) c.requires.second) c.requires.apart
    c.add_two.new.table c.in_ok-lists.lists.triangles.items (all_listed c.in_ok-lists.lists.rows.items)
    (record { faces = c.add_two.ensures.faces; glued = c.add_two.ensures.glued; few = omega arith })
    c.in_ok-lists.ensures.triangles
    (c.in_ok-lists.ensures.rows ∙ ap (λ (n : ℕ). map (renamed_row r) (without (side_at b.side) (without (side_at a.side) v.rows)) ++ (new_row n t first ∷ [])) c.face_count-face.ensures.count)
