-- The calls of the table are counted in the ledger of their own blank.
use Rattle.drc_container.proofs.reading.edgebreaker.read_unassembled.Given as goal

abbrev pub ghosts-read_surface : goal.ghosts-read_surface
ghosts-read_surface a = record { name = a.blank.name; parts = a.blank.parts }
