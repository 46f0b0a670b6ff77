-- The table calls count in the ledger of the blank.
use Rattle.tests_surface.proofs.eb_valence_tests.notes_contexts_of_surfaces.Given as goal

abbrev pub ghosts-notes : goal.ghosts-notes
ghosts-notes g a = record { name = a.blank.name; parts = a.blank.parts }
