use Rattle.std.proofs.Common.{◌≡◌, ◌++◌, map, take, drop, replicate}
use Rattle.drc_c.specs.Heads.{blank_head, head_told}
use Rattle.drc_c.proofs.heads.heads_told.Given as goal

abbrev pub invariant-loop-k : goal.invariant-loop-k
invariant-loop-k l = l.all ≡ map head_told (take l.k l.heads) ++ drop l.k (replicate 16 blank_head)
