-- The rows of what was noted are the order of the walk.
use Rattle.std.proofs.Common.{ℕ, List, ◌++◌, map, reverse, ap, ◌∙◌}
use Rattle.eb_trace.specs.declared.notes.Entered.{Entered}
use Rattle.eb_trace.specs.Stored.{entered_row}
use Rattle.eb_trace.proofs.Going.{rows_noted}
use Rattle.eb_trace.proofs.tracing.rows_in_order.Goals as goal

pub returns : goal.returns
returns c = c.in_ok-rows.ensures
    ∙ ap (λ (l : List Entered). map entered_row (reverse l) ++ map (λ (f : ℕ). (f, 1)) c.as_slice-2.result.now) c.as_slice.ensures.value
    ∙ ap (λ (l : List ℕ). map entered_row (reverse c.args.notes.now.entries.items) ++ map (λ (f : ℕ). (f, 1)) l) c.as_slice-2.ensures.value
    ∙ rows_noted c.args.notes.now
