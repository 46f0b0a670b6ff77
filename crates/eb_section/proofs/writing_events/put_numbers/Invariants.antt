use Rattle.std.proofs.Common.{◌≡◌, ◌++◌, drop}
use Rattle.eb_trace.specs.Writable.{RiseFrom}
use Rattle.eb_section.specs.Written.{numbers_bytes}
use Rattle.eb_section.proofs.writing_events.put_numbers.Given as goal

abbrev pub invariant-loop-i : goal.invariant-loop-i
invariant-loop-i l = record {
  bytes : l.out.items ++ numbers_bytes l.before (drop l.i l.events) ≡ l.fn.out.items ++ numbers_bytes 0 l.events;
  rise : RiseFrom l.before (drop l.i l.events);
}
