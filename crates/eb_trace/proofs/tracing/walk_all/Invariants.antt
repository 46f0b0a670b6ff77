-- The faces so far are walked.
use Rattle.std.proofs.Common.{◌≡◌}
use Rattle.eb_trace.specs.Trace.{traced_runs}
use Rattle.eb_trace.specs.Stored.{traced_gluing, noted_walk, IsTraceStored}
use Rattle.eb_trace.proofs.tracing.walk_all.Given as goal

abbrev pub invariant-loop-face : goal.invariant-loop-face
invariant-loop-face l = record {
  stored : IsTraceStored l.s l.marks l.notes;
  walk : noted_walk l.notes ≡ traced_runs l.s.faces (traced_gluing l.s) l.face;
}
