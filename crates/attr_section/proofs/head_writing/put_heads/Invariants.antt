use Rattle.std.proofs.Common.{◌≡◌, ◌++◌, take, flat_map}
use Rattle.std.specs.List.{All}
use Rattle.drc_bits.specs.Spells.{Spells}
use Rattle.attr_heads.specs.HeadItems.{head_at}
use Rattle.attr_heads.specs.HeadItems.{head_bytes, stream_head}
use Rattle.attr_section.proofs.head_writing.put_heads.Given as goal

abbrev pub invariant-loop-head : goal.invariant-loop-head
invariant-loop-head l =
    (l.out.items ≡ l.fn.out.items ++ flat_map head_bytes (take l.head-index l.heads))
    × All (λ h. Spells head_at (head_bytes h) (stream_head h)) (take l.head-index l.heads)
