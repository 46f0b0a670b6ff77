-- The call counts in the ledger of its blank.
use Rattle.tests_surface.proofs.eb_rebuild_tests.degree_of.Given as goal

abbrev pub ghosts-degree_after : goal.ghosts-degree_after
ghosts-degree_after a = record { name = a.blank.name; parts = a.blank.parts }
