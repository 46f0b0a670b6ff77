use Rattle.std.proofs.Common.{◌≡◌, ◌++◌, take, map}
use Rattle.attr_heads.specs.Codings.{coding_byte}
use Rattle.attr_section.proofs.head_writing.put_codings.Given as goal

abbrev pub invariant-loop-head : goal.invariant-loop-head
invariant-loop-head l =
    (l.out.items ≡ l.fn.out.items ++ map coding_byte (take l.head-index l.heads))
