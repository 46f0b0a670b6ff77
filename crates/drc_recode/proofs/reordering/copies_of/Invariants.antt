use Rattle.std.proofs.Common.{◌≡◌, take}
use Rattle.drc_recode.proofs.reordering.copies_of.Given as goal

-- the heads so far
abbrev pub invariant-loop-head : goal.invariant-loop-head
invariant-loop-head l = l.copies.items ≡ take l.head-index l.heads
