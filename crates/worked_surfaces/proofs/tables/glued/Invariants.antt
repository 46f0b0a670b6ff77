-- The table's calls are counted in the ledger of their own blank.
use Rattle.worked_surfaces.proofs.tables.glued.Given as goal

abbrev pub ghosts-glued_by : goal.ghosts-glued_by
ghosts-glued_by a = record { name = a.blank.name; parts = a.blank.parts }
