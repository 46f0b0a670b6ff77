-- As many faces as symbols so far.
use Rattle.std.proofs.Common.{◌≡◌, IsTrue}
use Rattle.tests_surface.proofs.eb_trace_rebuild_tests.take_all.Given as goal

abbrev pub invariant-loop-number : goal.invariant-loop-number
invariant-loop-number g l =
    ((g.R.Rebuild.state l.machine).built ≡ l.number) × ((g.R.Rebuild.state l.machine).closes ≡ 0) × (g.R.Rebuild.plan l.machine ≡ g.R.Rebuild.plan l.fn.machine) × IsTrue (g.R.Rebuild.live l.machine)
    × (g.R.Rebuild.room l.machine ≡ g.R.Rebuild.room l.fn.machine)
