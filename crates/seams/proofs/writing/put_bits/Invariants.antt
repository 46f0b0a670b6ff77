-- The bits of the sides so far stand in front.
use Rattle.std.proofs.Common.{◌≡◌, length, map, take}
use Rattle.corner_table.specs.Table.{glued_in}
use Rattle.seams.specs.Seams.{flag_at}
use Rattle.seams.specs.Pairs.{bit_sides_below}
use Rattle.seams.proofs.writing.put_bits.Given as goal

abbrev pub invariant-loop-side : goal.invariant-loop-side
invariant-loop-side l = record {
  count : l.count ≡ length (bit_sides_below l.side (glued_in l.across));
  bits : take l.count l.bits ≡ map (flag_at l.seam) (bit_sides_below l.side (glued_in l.across));
}
