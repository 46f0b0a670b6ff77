-- The call counts in the ledger of its own blank.
use Rattle.tests_surface.proofs.eb_trace_rebuild_tests.table_comes_back.Given as goal

abbrev pub ghosts-turned : goal.ghosts-turned
ghosts-turned g a = record { name = a.blank.name; parts = a.blank.parts }
