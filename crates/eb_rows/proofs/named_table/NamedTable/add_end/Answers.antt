-- The names and rows fit the new face.
use Rattle.std.proofs.Common.{ℕ, ◌+◌, [], ◌∷◌, ◌++◌, ap, ◌∙◌, arith}
use Rattle.corner_table.specs.Sides.{first, second, third}
use Rattle.corner_table.specs.Table.{glued_in}
use Rattle.eb_machine.specs.Named.{Triangle, new_row}
use Rattle.eb_rebuild.specs.NamedTables.{NamedTable}
use Rattle.eb_rows.specs.Rowed.{all_listed}
use Rattle.eb_rows.proofs.RowTables.{end_table}
use Rattle.eb_rows.proofs.named_table.NamedTable.add_end.Goals as goal

pub invariant_of-self : goal.invariant_of-self
invariant_of-self g c =
    let v : NamedTable = record { table = c.self.inside.table; triangles = c.self.inside.lists.triangles.items; rows = all_listed c.self.inside.lists.rows.items; made = c.self.inside.made } in
    let t : Triangle = (c.self.inside.made, c.self.inside.made + 1, c.self.inside.made + 2) in
    end_table v c.self.invariant c.add_face-self-inside.new.self c.in_ok-lists.lists.triangles.items (all_listed c.in_ok-lists.lists.rows.items)
    (record { faces = c.add_face-self-inside.ensures.faces; glued = ap glued_in c.add_face-self-inside.ensures.entries; few = omega arith })
    c.in_ok-lists.ensures.triangles
    (c.in_ok-lists.ensures.rows ∙ ap (λ (n : ℕ). v.rows ++ (new_row n t first ∷ new_row n t second ∷ new_row n t third ∷ [])) c.face_count-face.ensures.count)
