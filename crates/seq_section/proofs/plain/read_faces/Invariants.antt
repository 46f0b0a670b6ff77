use Rattle.std.proofs.Common.{◌≡◌, ◌-◌}
use Rattle.drc_bits.specs.Reading.{many_at}
use Rattle.drc_bits.proofs.Many.{with_front}
use Rattle.seq_section.specs.Indices.{face_at}
use Rattle.seq_section.proofs.plain.read_faces.Given as goal

abbrev pub invariant-loop : goal.invariant-loop
invariant-loop l =
    with_front l.read.items (many_at (face_at l.points) (l.faces - l.counter) l.c) ≡ many_at (face_at l.points) l.faces l.fn.c
