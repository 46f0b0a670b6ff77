-- Each close takes a side off, and no face.
use Rattle.std.proofs.Common.{◌≤◌, length, IsTrue}
use Rattle.tests_surface.proofs.eb_rebuild_tests.close_all.Given as goal

abbrev pub invariant-closing : goal.invariant-closing
invariant-closing g l = ((g.R.Rebuild.plan l.machine).symbols ≤ (g.R.Rebuild.state l.machine).built) × IsTrue (g.R.Rebuild.live l.machine)
    × ((g.R.Rebuild.plan l.machine).faces ≤ g.R.Rebuild.room l.machine)

abbrev pub decreases-closing : goal.decreases-closing
decreases-closing g l = length (g.R.Rebuild.state l.machine).stack
