-- Each call counts in the ledger of its own blank.
use Rattle.seams.proofs.cutting.classes.Given as goal

abbrev pub ghosts-labels_of : goal.ghosts-labels_of
ghosts-labels_of a = record { name = a.blank.name; parts = a.blank.parts }
