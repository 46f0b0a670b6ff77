use Rattle.std.proofs.Common.{◌≡◌, ◌++◌, take}
use Rattle.std.specs.List.{All}
use Rattle.attr_section.specs.Written.{ends_bytes, EndSpelled}
use Rattle.attr_section.proofs.quant_writing.put_ends.Given as goal

abbrev pub invariant-loop-head : goal.invariant-loop-head
invariant-loop-head l =
    (l.out.items ≡ l.fn.out.items ++ ends_bytes (take l.head-index l.heads))
    × All EndSpelled (take l.head-index l.heads)
