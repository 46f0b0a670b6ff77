use Rattle.std.proofs.Common.{◌≡◌, map, take}
use Rattle.drc_c.specs.Heads.{head_meant}
use Rattle.drc_c.proofs.heads.heads_meant.Given as goal

abbrev pub invariant-loop-head : goal.invariant-loop-head
invariant-loop-head l = l.heads.items ≡ map head_meant (take l.head-index l.told)
