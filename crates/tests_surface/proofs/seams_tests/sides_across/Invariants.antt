-- The call counts in the ledger of its blank.
use Rattle.tests_surface.proofs.seams_tests.sides_across.Given as goal

abbrev pub ghosts-sides_by : goal.ghosts-sides_by
ghosts-sides_by a = record { name = a.blank.name; parts = a.blank.parts }
