-- Each call counts in the ledger of its own blank.
use Rattle.tests_surface.proofs.eb_rebuild_tests.keeps_far_sides.Given as goal

abbrev pub ghosts-degree_after : goal.ghosts-degree_after
ghosts-degree_after g a = record { name = a.blank.name; parts = a.blank.parts }
