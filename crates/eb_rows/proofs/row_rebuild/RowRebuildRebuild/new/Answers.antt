-- Nothing is built.
use Rattle.std.proofs.Common.{ℕ, map, reverse, ap, ◌∙◌}
use Rattle.corner_table.specs.Sides.{side_at}
use Rattle.corner_table.specs.Table.{gluing_of}
use Rattle.eb_machine.specs.Machine.{State}
use Rattle.eb_rebuild.specs.Kept.{kept_in}
use Rattle.eb_rebuild.proofs.TableDegrees.{start_state}
use Rattle.eb_rows.proofs.row_rebuild.RowRebuildRebuild.new.Goals as goal

pub returns-clause-state : goal.returns-clause-state
returns-clause-state g c =
    let table = c.in_ok-named.named.table in
    let sides = c.in_ok-stack.stack.sides in
    let splits = c.in_ok-stack.splits in
    let at_made : ℕ → State = λ m. record { built = table.faces; glued = gluing_of table; stack = map side_at sides; reserved = kept_in splits.kept; events = splits.events; made = m; closes = 0 } in
    ap at_made c.in_ok-named.ensures.made
    ∙ start_state table sides splits.kept splits.events (reverse c.args.events.items) c.args.symbols c.in_ok-named.ensures.none c.in_ok-named.ensures.unglued c.in_ok-stack.ensures.sides c.in_ok-stack.ensures.kept c.in_ok-stack.ensures.events
