-- What is left of the run comes to the same.
use Rattle.std.proofs.Common.{◌≡◌, ◌-◌, ◌*◌, ◌<◌}
use Rattle.corner_table.specs.Sides.{side_at}
use Rattle.eb_trace.specs.Trace.{run}
use Rattle.eb_trace.specs.Stored.{traced_gluing, noted_walk, IsTraceStored}
use Rattle.eb_trace.proofs.walk.run.Given as goal

abbrev pub invariant-loop-turn : goal.invariant-loop-turn
invariant-loop-turn l = record {
  within : l.at < 3 * l.s.faces;
  stored : IsTraceStored l.s l.marks l.notes;
  same : run l.s.faces (traced_gluing l.s) l.s.faces (noted_walk l.fn.notes) (side_at l.corner) ≡ run l.s.faces (traced_gluing l.s) (l.s.faces - l.turn) (noted_walk l.notes) (side_at l.at);
}
