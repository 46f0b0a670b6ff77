-- What was read so far stands in front of what is still to come.
use Rattle.std.proofs.Common.{◌≡◌, ◌-◌, vec_len}
use Rattle.drc_bits.specs.Reading.{many_at}
use Rattle.drc_bits.proofs.Many.{with_front}
use Rattle.rans_binary.specs.Blocks.{bit_block_at}
use Rattle.eb_section.proofs.blocks.read_blocks.Given as goal

abbrev pub invariant-loop-k : goal.invariant-loop-k
invariant-loop-k l = record {
  told : with_front l.blocks.items (many_at bit_block_at (l.count - l._k) l.c) ≡ many_at bit_block_at l.count l.fn.c;
  len : vec_len l.blocks ≡ l._k;
}
