-- The flags of the sides so far are set.
use Rattle.corner_table.specs.Table.{glued_in}
use Rattle.seams.specs.Values.{is_seam}
use Rattle.seams.specs.Pairs.{AreToldTo}
use Rattle.seams.proofs.differences.mark_seams.Given as goal

abbrev pub invariant-loop-side : goal.invariant-loop-side
invariant-loop-side l = AreToldTo l.faces (glued_in l.across) (is_seam l.m l.attr (glued_in l.across)) l.side l.flags
