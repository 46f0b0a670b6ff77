use Rattle.drc_bits.proofs.Loading.{no_buffer}
use Rattle.drc_bits.proofs.bit_reader.BitReader.new.Goals as goal

pub invariant_of-result : goal.invariant_of-result
invariant_of-result c = no_buffer c.args.bytes.now
