use Rattle.std.proofs.Common.{◌≡◌, ◌≤◌, ◌*◌, drop, take}
use Rattle.attr_heads.specs.Head.{each_fault, width_of}
use Rattle.attr_heads.proofs.heads.test_each_head.Given as goal

-- no head so far has a fault, and the width is that of the heads so far
abbrev pub invariant-loop-k : goal.invariant-loop-k
invariant-loop-k l =
    (each_fault l.k (drop l.k l.heads) ≡ each_fault 0 l.heads)
    × (l.width ≡ width_of (take l.k l.heads))
    × (l.k ≤ l.width)
    × (l.width ≤ 8 * l.k)
