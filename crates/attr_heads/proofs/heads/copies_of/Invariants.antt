use Rattle.std.proofs.Common.{◌≡◌, take}
use Rattle.attr_heads.proofs.heads.copies_of.Given as goal

abbrev pub invariant-loop-head : goal.invariant-loop-head
invariant-loop-head l = l.copies.items ≡ take l.head-index l.heads
