-- The rows that are left decide.
use Rattle.ply_text.proofs.Runs.{RunSoFar}
use Rattle.ply_text.proofs.name_runs.run_by.Given as goal

abbrev pub invariant-loop-k : goal.invariant-loop-k
invariant-loop-k l = RunSoFar l.runs l.dtype l.properties l.k
