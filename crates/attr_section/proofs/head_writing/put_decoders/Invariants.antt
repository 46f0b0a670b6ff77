use Rattle.std.proofs.Common.{◌≡◌, ◌++◌, take, flat_map}
use Rattle.std.specs.List.{All}
use Rattle.attr_section.specs.Heads.{decoder_bytes, DecoderSpelled}
use Rattle.attr_section.proofs.head_writing.put_decoders.Given as goal

abbrev pub invariant-loop-decoder : goal.invariant-loop-decoder
invariant-loop-decoder l =
    (l.out.items ≡ l.fn.out.items ++ flat_map decoder_bytes (take l.decoder-index l.decoders))
    × All DecoderSpelled (take l.decoder-index l.decoders)
