-- The calls of the table are counted in the ledger of their own blank.
use Rattle.drc_verify.proofs.surfaces.packed.Given as goal

abbrev pub ghosts-counted_copy : goal.ghosts-counted_copy
ghosts-counted_copy a = record { name = a.blank.name; parts = a.blank.parts }
