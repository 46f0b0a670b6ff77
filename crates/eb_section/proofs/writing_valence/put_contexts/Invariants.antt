-- The table calls count in the ledger of the blank.
use Rattle.eb_section.proofs.writing_valence.put_contexts.Given as goal

abbrev pub ghosts-lists_by : goal.ghosts-lists_by
ghosts-lists_by a = record { name = a.blank.name; parts = a.blank.parts }
