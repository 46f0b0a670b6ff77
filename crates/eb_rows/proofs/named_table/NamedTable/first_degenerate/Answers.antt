-- Two equal names are two equal vertices.
use Rattle.std.proofs.Common.{ℕ, List, ap, ◌∙◌}
use Rattle.corner_table.specs.Table.{gluing_of}
use Rattle.eb_machine.specs.Machine.{first_degenerate}
use Rattle.eb_machine.specs.Named.{Triangle, first_with_equal}
use Rattle.eb_rebuild.specs.NamedTables.{NamedTable}
use Rattle.eb_rows.specs.Rowed.{all_listed}
use Rattle.eb_rows.proofs.RowTables.{first_equal_is}
use Rattle.eb_rows.proofs.named_table.NamedTable.first_degenerate.Goals as goal

pub returns : goal.returns
returns c =
    let v : NamedTable = record { table = c.self.inside.table; triangles = c.self.inside.lists.triangles.items; rows = all_listed c.self.inside.lists.rows.items; made = c.self.inside.made } in
    c.first_with_equal.ensures ∙ ap (λ (n : ℕ). first_with_equal c.as_slice.result.now n) c.face_count-faces.ensures.count ∙ ap (λ (l : List Triangle). first_with_equal l v.table.faces) c.as_slice.ensures.value ∙ first_equal_is v c.self.invariant
    ∙ ap (λ (w : NamedTable). first_degenerate w.table.faces (gluing_of w.table) w.table.faces) c.self.view_is
