use Rattle.std.proofs.Common.{◌≡◌, ◌-◌, ◌<◌, length}
use Rattle.std.specs.List.{All}
use Rattle.drc_bits.specs.Reading.{many_at}
use Rattle.drc_bits.proofs.Many.{with_front}
use Rattle.attr_heads.specs.HeadItems.{head_at}
use Rattle.attr_section.proofs.head_items.read_plain_heads.Given as goal

abbrev pub invariant-loop-number : goal.invariant-loop-number
invariant-loop-number l = (with_front l.heads.items (many_at head_at (l.n - l._number) l.c) ≡ many_at head_at l.n l.fn.c) × (length l.heads.items ≡ l._number)
    × All (λ h. 0 < h.comps) l.heads.items
