-- The call counts in the ledger of its own blank.
use Rattle.tests_surface.proofs.corner_table_tests.is_told.Given as goal

abbrev pub ghosts-told : goal.ghosts-told
ghosts-told g a = record { name = a.blank.name; parts = a.blank.parts }
