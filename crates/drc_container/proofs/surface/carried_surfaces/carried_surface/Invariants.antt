-- The calls of the table are counted in the ledger of their own blank.
use Rattle.drc_container.proofs.surface.carried_surfaces.carried_surface.Given as goal

abbrev pub ghosts-counted_surface : goal.ghosts-counted_surface
ghosts-counted_surface a = record { name = a.blank.name; parts = a.blank.parts }
