use Rattle.drc_recode.proofs.BackRows.{IsBack}
use Rattle.drc_recode.proofs.inverting.inverse.Given as goal

-- what the rows so far have marked, and where they stand
abbrev pub invariant-loop-i : goal.invariant-loop-i
invariant-loop-i l = IsBack l.greatest l.rows l.i l.seen.items l.back.items
