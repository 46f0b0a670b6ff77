-- The face is marked, and its entry is the last.
use Rattle.std.proofs.Common.{◌/◌, ℕ, List, set, refl, ap, ◌∙◌}
use Rattle.eb_trace.specs.Trace.{TracedEntry}
use Rattle.eb_trace.specs.Stored.{entry_of, split_entry, noted_walk}
use Rattle.eb_trace.proofs.Marking.{stored_entered, same_items}
use Rattle.eb_trace.proofs.Going.{last_first}
use Rattle.eb_trace.proofs.walk.enter.Goals as goal

pub returns-clause-stored : goal.returns-clause-stored
returns-clause-stored c = stored_entered _ _ c.args.corner c.args.symbol c.requires.surface c.requires.stored c.requires.corner c.requires.few c.mark.ensures.visited c.mark.ensures.met
    (same_items c.mark.ensures.splits ∙ ap (λ (k : ℕ). set c.args.marks.now.splits.items (c.args.corner / 3) k) (c.split_entry-split.ensures ∙ ap (λ (k : ℕ). split_entry k c.args.symbol) c.len.ensures))
    c.mark.ensures.sized refl (ap (λ (es : List TracedEntry). record (noted_walk c.args.notes.now) { entries = es }) (last_first entry_of _ _ _ c.in_ok-push.ensures.items))
