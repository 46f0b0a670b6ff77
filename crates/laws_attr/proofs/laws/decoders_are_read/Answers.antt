use Rattle.laws_attr.proofs.Decoders.{decoder_values_read}
use Rattle.laws_attr.proofs.laws.decoders_are_read.Goals as goal

pub returns : goal.returns
returns c = decoder_values_read
