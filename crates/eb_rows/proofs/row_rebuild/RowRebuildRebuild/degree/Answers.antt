-- The top side is that of the machine's state.
use Rattle.std.proofs.Common.{ℕ, List, map, sym, ap, ◌∙◌}
use Rattle.corner_table.specs.Sides.{side_at}
use Rattle.eb_machine.specs.Degree.{top_degree}
use Rattle.eb_rebuild.specs.Linked.{state_of}
use Rattle.eb_rows.specs.Rowed.{RowValue, plain_of}
use Rattle.eb_rebuild.proofs.Lists.{first_some}
use Rattle.eb_rows.proofs.row_rebuild.RowRebuildRebuild.degree.Goals as goal

pub returns-in-Some : goal.returns-in-Some
returns-in-Some g c =
    let value : RowValue = record { plan = record { faces = c.self.inside.faces; created = c.self.inside.created; symbols = c.self.inside.symbols }; named = c.self.inside.named; stack = c.self.inside.stack; splits = c.self.inside.splits; closes = c.self.inside.closes } in
    let u = first_some c.self.inside.stack.sides c.in-Some.a c.in-Some.ensures in
    c.degree_at.ensures
    ∙ ap (λ (l : List ℕ). top_degree (record (state_of (plain_of value)) { stack = map side_at l })) (sym u.1)
    ∙ ap (λ (v : RowValue). top_degree (state_of (plain_of v))) c.self.view_is
