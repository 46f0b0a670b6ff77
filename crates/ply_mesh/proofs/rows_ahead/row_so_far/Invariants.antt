use Rattle.ply_mesh.proofs.AheadSteps.{IsAhead}
use Rattle.ply_mesh.proofs.rows_ahead.row_so_far.Given as goal

-- the numbers so far were appended
abbrev pub invariant-loop-j : goal.invariant-loop-j
invariant-loop-j l = IsAhead l.columns l.text l.fn.out.items l.out.items l.j l.place
