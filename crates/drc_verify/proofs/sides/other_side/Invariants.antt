-- The calls of the tables are counted in the ledger of their own blank.
use Rattle.drc_verify.proofs.sides.other_side.Given as goal

abbrev pub ghosts-counted_difference : goal.ghosts-counted_difference
ghosts-counted_difference a = record { name = a.blank.name; parts = a.blank.parts }
