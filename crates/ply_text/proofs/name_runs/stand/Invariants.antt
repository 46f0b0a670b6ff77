-- The names and properties that are left decide.
use Rattle.ply_text.proofs.Runs.{StandSoFar}
use Rattle.ply_text.proofs.name_runs.stand.Given as goal

abbrev pub invariant-loop-j : goal.invariant-loop-j
invariant-loop-j l = StandSoFar l.words l.dtype l.properties l.j
