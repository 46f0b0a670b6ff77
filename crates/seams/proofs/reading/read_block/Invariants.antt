-- The flags of the sides so far are set, by as many bits.
use Rattle.std.proofs.Common.{◌≡◌, length}
use Rattle.corner_table.specs.Table.{glued_in}
use Rattle.corner_table.specs.Pairs.{bit_sides}
use Rattle.rans_binary.specs.Blocks.{behind, bit_of}
use Rattle.seams.specs.SeamBits.{place_in}
use Rattle.seams.specs.Pairs.{AreToldTo, bit_sides_below}
use Rattle.seams.proofs.reading.read_block.Given as goal

abbrev pub invariant-loop-side : goal.invariant-loop-side
invariant-loop-side l = record {
  told : AreToldTo l.faces (glued_in l.across) (λ x. bit_of l.fn.block (place_in (bit_sides l.faces (glued_in l.across)) x)) l.side l.flags;
  block : l.ahead ≡ behind (length (bit_sides_below l.side (glued_in l.across))) l.fn.block;
}
