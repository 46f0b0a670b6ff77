use Rattle.ply_text.proofs.Splitting.{IsSolid}
use Rattle.ply_text.proofs.blanks.token_end.Given as goal

abbrev pub invariant-loop-i : goal.invariant-loop-i
invariant-loop-i l = IsSolid l.line l.start l.i
