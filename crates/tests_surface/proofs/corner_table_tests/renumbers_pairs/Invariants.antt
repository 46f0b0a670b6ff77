-- The call counts in the ledger of its own blank.
use Rattle.tests_surface.proofs.corner_table_tests.renumbers_pairs.Given as goal

abbrev pub ghosts-renumbered_pair : goal.ghosts-renumbered_pair
ghosts-renumbered_pair g a = record { name = a.blank.name; parts = a.blank.parts }
