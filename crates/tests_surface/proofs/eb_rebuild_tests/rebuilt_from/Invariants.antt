-- The call counts in the ledger of its own blank.
use Rattle.tests_surface.proofs.eb_rebuild_tests.rebuilt_from.Given as goal

abbrev pub ghosts-rebuilt : goal.ghosts-rebuilt
ghosts-rebuilt g a = record { name = a.blank.name; parts = a.blank.parts }
