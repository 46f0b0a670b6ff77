use Rattle.std.proofs.Common.{◌≡◌, ◌-◌, ◌≤◌, length}
use Rattle.std.specs.List.{All}
use Rattle.drc_bits.specs.Reading.{many_at}
use Rattle.drc_bits.proofs.Many.{with_front}
use Rattle.kd_points.specs.Header.{extent_at}
use Rattle.kd_points.proofs.headers.read_extents.Given as goal

abbrev pub invariant-loop-number : goal.invariant-loop-number
invariant-loop-number l = (with_front l.extents.items (many_at extent_at (l.width - l._number) l.c) ≡ many_at extent_at l.width l.fn.c) × (length l.extents.items ≡ l._number)
    × All (λ e. e.bits ≤ 32) l.extents.items
