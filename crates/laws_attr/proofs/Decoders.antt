-- The values of a decoder and its quantisations are read as what they were made of.
use Rattle.std.proofs.Common.{Bool, List, [], ◌∷◌, Option}
use Rattle.std.specs.List.{All, zip}
use Rattle.std.proofs.lemmas.List.Elements.{All-head, All-tail}
use Rattle.attr_heads.specs.declared.heads.Head.{Head}
use Rattle.corner_table.specs.Ordered.{Ordered}
use Rattle.attr_section.specs.declared.values.Values.{Values}
use Rattle.attr_section.specs.Positions.{PositionsRead}
use Rattle.attr_section.specs.Written.{found_behind, ValuesPass, AttributesSpelled}
use Rattle.attr_section.proofs.SpelledValues.{decoder_spelled}
use Rattle.laws_attr.specs.Laws.{DecoderValuesAreRead}
use Rattle.laws_attr.proofs.Heads.{ends_read}
use Rattle.laws_attr.proofs.Values.{values_read}

-- the values of attributes behind one another
attributes_read : (plain : Bool) (w : Option Ordered) (found : PositionsRead) (heads : List Head) (vs : List Values)
    → All (λ (h, v). ValuesPass w h v) (zip heads vs) → AttributesSpelled plain w found heads vs
attributes_read plain w found [] vs pass = tt
attributes_read plain w found (h ∷ heads) [] pass = tt
attributes_read plain w found (h ∷ heads) (v ∷ vs) pass = (
  values_read plain w found h v (All-head (λ (h, v). ValuesPass w h v) (h, v) (zip heads vs) pass),
  attributes_read plain w (found_behind w found h v) heads vs (All-tail (λ (h, v). ValuesPass w h v) (h, v) (zip heads vs) pass),
)

-- the values of a decoder
pub decoder_values_read : DecoderValuesAreRead
decoder_values_read plain w found d attributes pass fit few n before entries spent place rest by counts within =
    decoder_spelled plain w n found before few entries spent d attributes pass.each_head
    (λ k x below. (pass.each k x below).bounded)
    (attributes_read plain w found d.heads attributes pass.each)
    (λ k h below. ends_read _ (pass.ends k h below) (fit k h below).quant)
    by counts within place rest
