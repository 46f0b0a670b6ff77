-- The width of the heads so far.
use Rattle.std.proofs.Common.{◌≡◌, take}
use Rattle.attr_heads.specs.Head.{width_of}
use Rattle.seams.proofs.differences.width_of.Given as goal

abbrev pub invariant-loop-head : goal.invariant-loop-head
invariant-loop-head l = l.width ≡ width_of (take l.head-index l.heads)
