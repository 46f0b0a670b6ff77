-- Each call counts in the ledger of its own blank.
use Rattle.tests_surface.proofs.eb_trace_rebuild_tests.is_rebuilt.Given as goal

abbrev pub ghosts-rebuilt : goal.ghosts-rebuilt
ghosts-rebuilt g a = record { name = a.blank.name; parts = a.blank.parts }

abbrev pub ghosts-have_same_entries : goal.ghosts-have_same_entries
ghosts-have_same_entries g a = record { name = a.blank.name; parts = a.blank.parts }

abbrev pub ghosts-has_vertices : goal.ghosts-has_vertices
ghosts-has_vertices g a = record { name = a.blank.name; parts = a.blank.parts }
