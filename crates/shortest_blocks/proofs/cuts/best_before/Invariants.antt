use Rattle.std.proofs.Common.{map}
use Rattle.std.specs.List.{IsFirstBest}
use Rattle.shortest_blocks.specs.Cuts.{is_cheaper, with_run}
use Rattle.shortest_blocks.proofs.cuts.best_before.Given as goal

-- the first so far behind which the run costs least
abbrev pub invariant-loop-i : goal.invariant-loop-i
invariant-loop-i l = IsFirstBest is_cheaper (map (with_run l.run) l.cuts) l.i l.best
