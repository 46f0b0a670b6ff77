use Rattle.std.proofs.Common.{◌≡◌, ◌-◌}
use Rattle.drc_bits.specs.Reading.{many_at}
use Rattle.drc_bits.proofs.Many.{with_front}
use Rattle.kd_points.specs.Header.{kd_head_at}
use Rattle.kd_points.proofs.head_reading.read_attributes.Given as goal

abbrev pub invariant-loop-number : goal.invariant-loop-number
invariant-loop-number l = with_front l.heads.items (many_at kd_head_at (l.n - l._number) l.c) ≡ many_at kd_head_at l.n l.fn.c
