use Rattle.std.proofs.Common.{◌<◌, length, arith}
use Rattle.attr_section.specs.Heads.{decoder_bytes, DecoderSpelled}
use Rattle.attr_section.proofs.Loops.{appended-more, all-more}
use Rattle.attr_section.proofs.head_writing.put_decoders.Goals as goal

pub loop-decoder-preserved : goal.loop-decoder-preserved
loop-decoder-preserved c =
    let within : c.loop-decoder.decoder-index < length c.args.decoders.now = omega arith in (
      appended-more decoder_bytes c.args.decoders.now c.loop-decoder.decoder-index c.decoder-item.result c.args.out.now.items c.loop-decoder.out.items c.put_decoder.new.out.items within c.decoder-item.is c.loop-decoder.invariant.0 c.in_ok-put_decoder.ensures.bytes,
      all-more DecoderSpelled c.args.decoders.now c.loop-decoder.decoder-index c.decoder-item.result within c.decoder-item.is c.loop-decoder.invariant.1 c.in_ok-put_decoder.ensures.again,
    )
