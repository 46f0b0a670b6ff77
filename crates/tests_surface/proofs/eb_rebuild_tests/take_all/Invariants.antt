-- As many faces as symbols so far.
use Rattle.std.proofs.Common.{◌≡◌, IsTrue}
use Rattle.tests_surface.proofs.eb_rebuild_tests.take_all.Given as goal

abbrev pub invariant-loop-symbol : goal.invariant-loop-symbol
invariant-loop-symbol g l =
    ((g.R.Rebuild.state l.machine).built ≡ l.symbol-index) × ((g.R.Rebuild.state l.machine).closes ≡ 0) × (g.R.Rebuild.plan l.machine ≡ g.R.Rebuild.plan l.fn.machine) × IsTrue (g.R.Rebuild.live l.machine)
    × (g.R.Rebuild.room l.machine ≡ g.R.Rebuild.room l.fn.machine) × (g.R.Rebuild.has_degrees l.machine ≡ g.R.Rebuild.has_degrees l.fn.machine)
