use Rattle.std.proofs.Common.{◌≡◌, ◌-◌}
use Rattle.drc_bits.specs.Reading.{many_at}
use Rattle.drc_bits.proofs.Many.{with_front}
use Rattle.drc_bits.specs.Numbers.{number_at}
use Rattle.kd_points.proofs.head_reading.read_minima.Given as goal

abbrev pub invariant-loop-number : goal.invariant-loop-number
invariant-loop-number l = with_front l.minima.items (many_at (number_at 4) (l.comps - l._number) l.c) ≡ many_at (number_at 4) l.comps l.fn.c
