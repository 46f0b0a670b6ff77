-- The call counts in the ledger of its blank.
use Rattle.worked_surfaces.proofs.tables.has_entries.Given as goal

abbrev pub ghosts-entries_by : goal.ghosts-entries_by
ghosts-entries_by a = record { name = a.blank.name; parts = a.blank.parts }
