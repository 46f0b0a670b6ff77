-- The call counts in the ledger of its blank.
use Rattle.tests_surface.proofs.pairing_tests.vertices_of.Given as goal

abbrev pub ghosts-vertices_by : goal.ghosts-vertices_by
ghosts-vertices_by a = record { name = a.blank.name; parts = a.blank.parts }
