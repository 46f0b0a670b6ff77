-- Heads and quantisations are read as what they were made of.
use Rattle.std.proofs.Common.{◌≡◌, ℕ, Option, None, Some, refl}
use Rattle.std.specs.List.{All}
use Rattle.attr_heads.specs.declared.heads.Head.{Head}
use Rattle.attr_section.specs.declared.decoder_heads.DecoderHead.{DecoderHead}
use Rattle.attr_section.specs.Heads.{DecoderPasses, DecoderSpelled}
use Rattle.attr_heads.proofs.HeadsBack.{Spells-head}
use Rattle.attr_section.proofs.Spelling.{decoder_spelled, heads_spelled}
use Rattle.attr_section.specs.Written.{HasEnd, QuantFits, EndSpelled}
use Rattle.attr_section.proofs.SpelledValues.{unsquared_end, squared_end}
use Rattle.laws_attr.specs.Laws.{HeadFits, EndsAreRead, HeadsAreRead}

-- a decoder behind others
decoder_read : (d : DecoderHead) → DecoderPasses d → All HeadFits d.heads → DecoderSpelled d
decoder_read d passes fit = decoder_spelled d passes (λ k h below. Spells-head _ (passes.heads k h below) (fit k h below).id)

-- the heads of all decoders
pub heads_read : HeadsAreRead
heads_read n attr_data decoders has pass fit linked =
    heads_spelled n attr_data decoders has pass linked (λ k d below. decoder_read _ (pass.each k d below) (fit k d below))

-- what stands for a head at the end of its decoder
end_read : (h : Head) (o : Option ℕ) → h.octa ≡ o → HasEnd h o → QuantFits h.quant → EndSpelled h
end_read h None is has fit = unsquared_end h is has fit
end_read h (Some bits) is has fit = squared_end h bits is has.0 has.1

pub ends_read : EndsAreRead
ends_read h has fit = end_read h h.octa refl has fit
