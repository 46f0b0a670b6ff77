-- A branch ends, and the run goes on at a kept corner.
use Rattle.corner_table.specs.Sides.{side_at}
use Rattle.eb_trace.specs.Stored.{traced_gluing}
use Rattle.eb_trace.proofs.Going.{branch_ends}
use Rattle.eb_trace.proofs.walk.after_symbol.Goals as goal

pub returns-in_ok-enter-in-E-clause-walk : goal.returns-in_ok-enter-in-E-clause-walk
returns-in_ok-enter-in-E-clause-walk c =
    branch_ends (traced_gluing c.args.s.now) c.args.notes.now c.note_events-in-E.new.notes _ (side_at c.args.corner) c.args.symbol _ c.in-E.is c.in_ok-note_events-in-E.ensures.rest c.in_ok-note_events-in-E.ensures.events c.in_ok-enter-in-E.ensures.walk c.take_kept.ensures.walk
