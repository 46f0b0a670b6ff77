-- The call counts in the ledger of its blank.
use Rattle.predict.proofs.surface.surface_of.Given as goal

abbrev pub ghosts-entries_of : goal.ghosts-entries_of
ghosts-entries_of a = record { name = a.blank.name; parts = a.blank.parts }
