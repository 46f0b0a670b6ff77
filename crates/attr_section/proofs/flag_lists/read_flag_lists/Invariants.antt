use Rattle.std.proofs.Common.{◌≡◌, ◌-◌}
use Rattle.drc_bits.specs.Reading.{many_at}
use Rattle.drc_bits.proofs.Many.{with_front}
use Rattle.attr_section.specs.Values.{flags_at}
use Rattle.attr_section.proofs.flag_lists.read_flag_lists.Given as goal

abbrev pub invariant-loop-number : goal.invariant-loop-number
invariant-loop-number l = with_front l.lists.items (many_at (flags_at l.corners) (l.count - l._number) l.c) ≡ many_at (flags_at l.corners) l.count l.fn.c
