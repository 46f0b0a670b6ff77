use Rattle.std.proofs.Common.{◌≡◌, take}
use Rattle.attr_heads.specs.Head.{width_of}
use Rattle.attr_heads.proofs.heads.row_width.Given as goal

-- the width of the heads so far
abbrev pub invariant-loop-head : goal.invariant-loop-head
invariant-loop-head l = l.width ≡ width_of (take l.head-index l.heads)
