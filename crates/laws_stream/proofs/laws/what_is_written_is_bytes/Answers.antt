use Rattle.laws_stream.proofs.bytes.Streams.{written-bytes}
use Rattle.laws_stream.proofs.laws.what_is_written_is_bytes.Goals as goal

pub returns : goal.returns
returns c = written-bytes
