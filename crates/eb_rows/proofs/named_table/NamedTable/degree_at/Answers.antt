-- Names are counted as fans are.
use Rattle.std.proofs.Common.{◌≡◌, ℕ, ◌+◌, ◌*◌, ◌<◌, ◌==◌, Bool, cond, List, sum_by, sym, ap, ◌∙◌, subst, arith}
use Rattle.std.specs.List.{list_any}
use Rattle.corner_table.specs.Sides.{Side, next, side_at}
use Rattle.corner_table.specs.Table.{gluing_of}
use Rattle.eb_machine.specs.Degree.{degree}
use Rattle.eb_machine.specs.Named.{Triangle, Row}
use Rattle.eb_machine.specs.Shown.{name_of}
use Rattle.eb_rows.specs.declared.active_rows.Row.{Row as NumberedRow}
use Rattle.eb_rebuild.specs.Counted.{times_in}
use Rattle.eb_rebuild.specs.NamedTables.{NamedTable}
use Rattle.eb_rows.specs.Rowed.{all_listed}
use Rattle.eb_rebuild.proofs.Degrees.{degree_is}
use Rattle.eb_rows.proofs.RowTables.{any_listed}
use Rattle.eb_rows.proofs.named_table.NamedTable.degree_at.Goals as goal

pub returns : goal.returns
returns c =
    let v : NamedTable = record { table = c.self.inside.table; triangles = c.self.inside.lists.triangles.items; rows = all_listed c.self.inside.lists.rows.items; made = c.self.inside.made } in
    let at : Side = next (side_at c.args.side) in
    let name : c.start_name-vertex.result ≡ name_of v.triangles at = c.start_name-vertex.ensures ∙ ap (λ (ts : List Triangle). name_of ts at) c.as_slice.ensures.value in
    let corners : c.corners_named-corners.result ≡ sum_by (times_in (name_of v.triangles at)) v.triangles =
    c.corners_named-corners.ensures.corners ∙ ap (λ (ts : List Triangle). sum_by (times_in c.start_name-vertex.result) ts) c.as_slice-2.ensures.value ∙ ap (λ (n : ℕ). sum_by (times_in n) v.triangles) name in
    let starts : c.starts_row-starts.result ≡ list_any (λ (r : Row). r.from == name_of v.triangles at) v.rows =
    c.starts_row-starts.ensures ∙ ap (list_any (λ (r : NumberedRow). r.from == c.start_name-vertex.result)) c.as_slice-3.ensures.value ∙ any_listed c.start_name-vertex.result c.self.inside.lists.rows.items
    ∙ ap (λ (n : ℕ). list_any (λ (r : Row). r.from == n) v.rows) name in
    ap (λ (n : ℕ). n + c.one_if.result) corners ∙ ap (λ (n : ℕ). sum_by (times_in (name_of v.triangles at)) v.triangles + n) (c.one_if.ensures ∙ ap (λ (t : Bool). cond t 1 0) starts)
    ∙ degree_is v c.self.invariant at (let h = subst (λ (w : NamedTable). c.args.side < 3 * w.table.faces) (sym c.self.view_is) c.requires in omega arith)
    ∙ ap (λ (w : NamedTable). degree w.table.faces (gluing_of w.table) at) c.self.view_is
