-- The events so far are of the stream.
use Rattle.std.specs.List.{All}
use Rattle.eb_machine.specs.Events.{IsEventOf}
use Rattle.tests_surface.proofs.eb_rebuild_tests.events_of.Given as goal

abbrev pub invariant-loop-event : goal.invariant-loop-event
invariant-loop-event g l = All (IsEventOf l.symbols) l.events.items
