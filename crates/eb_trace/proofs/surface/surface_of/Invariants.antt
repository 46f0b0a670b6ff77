-- The calls count in the ledger of their blank.
use Rattle.eb_trace.proofs.surface.surface_of.Given as goal

abbrev pub ghosts-counted_surface : goal.ghosts-counted_surface
ghosts-counted_surface a = record { name = a.blank.name; parts = a.blank.parts }
