use Rattle.std.proofs.Common.{◌≡◌, ◌-◌, length}
use Rattle.drc_bits.specs.Reading.{many_at}
use Rattle.drc_bits.proofs.Many.{with_front}
use Rattle.attr_section.specs.Values.{plain_value_at}
use Rattle.attr_section.proofs.integers.read_each.Given as goal

abbrev pub invariant-loop-number : goal.invariant-loop-number
invariant-loop-number l = (with_front l.values.items (many_at (plain_value_at l.width) (l.n - l._number) l.c) ≡ many_at (plain_value_at l.width) l.n l.fn.c) × (length l.values.items ≡ l._number)
