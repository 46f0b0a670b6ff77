use Rattle.std.proofs.Common.{◌≡◌, drop, map}
use Rattle.attr_heads.specs.Head.{each_fault}
use Rattle.drc_c.specs.Heads.{head_meant}
use Rattle.drc_c.proofs.early.test_each_head.Given as goal

-- no head so far has a fault
abbrev pub invariant-loop-k : goal.invariant-loop-k
invariant-loop-k l = each_fault l.k (map head_meant (drop l.k l.heads)) ≡ each_fault 0 (map head_meant l.heads)
