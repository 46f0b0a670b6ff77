-- What is written of attributes is read as what it was made of, whatever follows it (this project's choice of words).
use Rattle.drc_base.specs.Profile.{profile_numbered}
use Rattle.std.specs.Prelude.{◌≡◌, ℕ, ◌+◌, ◌%◌, ◌^◌, ◌<◌, ◌≤◌, Bool, ℤ, FitsSigned, List, ◌++◌, length, map, Option, is_some, Ok, All}
use Rattle.std.specs.Int.{w32}
use Rattle.drc_base.specs.declared.limits.TheConstants.{MAX_VALUES}
use Rattle.drc_bits.specs.Spells.{Spells}
use Rattle.attr_heads.specs.declared.heads.Head.{Head}
use Rattle.predict.specs.Wrap.{Range, CanWrap, HasEnds}
use Rattle.corner_table.specs.Ordered.{Ordered}
use Rattle.attr_section.specs.declared.decoder_heads.DecoderHead.{DecoderHead}
use Rattle.attr_section.specs.declared.values.Values.{Values}
use Rattle.attr_section.specs.Heads.{heads_at, heads_bytes, bare_decoder, DecodersPass, AreAcceptedLinks, HaveCodings}
use Rattle.attr_section.specs.Positions.{PositionsRead}
use Rattle.attr_section.specs.Values.{integers_at, range_at}
use Rattle.attr_section.specs.Attributes.{values_in, decoder_values_at}
use Rattle.attr_section.specs.WrittenParts.{integers_bytes, range_bytes, MayHaveFewFlags, FlagsSpelled}
use Rattle.attr_section.specs.Written.{decoder_values_bytes, HasEnd, QuantFits, ValuesPass, DecoderValuesPass, values_placed, HaveEntries}
use Rattle.attr_section.specs.Written.{any_came_later, IsReadIn, ValuesSpelled, EndSpelled}

-- the numbers of a head that are written in up to four bytes have 32 bits: its id, and those of its quantisation
pub record HeadFits (h : Head) : Type 0 where
  pub id : h.id < 2 ^ 32
  pub quant : QuantFits h.quant

-- a list of flags
abbrev pub FlagsAreRead : Type 0
FlagsAreRead = (flags : List Bool) → length flags < 2 ^ 31 → FlagsSpelled flags

-- integers of 32 bits, of entries of so many components
abbrev pub IntegersAreRead : Type 0
IntegersAreRead = (plain : Bool) (comps : ℕ) (values : List ℤ) → 0 < comps → length values % comps ≡ 0 → length values ≤ MAX_VALUES
    → All (FitsSigned w32) values → Spells (integers_at comps (length values)) (integers_bytes plain comps values) values

-- a range in which corrections can wrap
abbrev pub RangesAreRead : Type 0
RangesAreRead = (r : Range) → CanWrap r → HasEnds r → Spells range_at (range_bytes r) r

-- the values of an attribute, by any prediction that they may have, wherever they begin
abbrev pub ValuesAreRead : Type 0
ValuesAreRead = (plain : Bool) (w : Option Ordered) (found : PositionsRead) (h : Head) (v : Values)
    → ValuesPass w h v → ValuesSpelled plain w found h v

-- what stands for a head at the end of its decoder, its quantisation or the bits of its square
abbrev pub EndsAreRead : Type 0
EndsAreRead = (h : Head) → HasEnd h h.octa → QuantFits h.quant → EndSpelled h

-- the heads of decoders, without what stands at the end of these: in a sequential stream, or beside so many attribute data, in each
-- profile that has their codings
abbrev pub HeadsAreRead : Type 0
HeadsAreRead = (n : ℕ) (attr_data : Option ℕ) (decoders : List DecoderHead) → HaveCodings n decoders → DecodersPass decoders
    → All (λ d. All HeadFits d.heads) decoders → AreAcceptedLinks attr_data decoders
    → Spells (heads_at (profile_numbered n) attr_data) (heads_bytes (is_some attr_data) decoders) (map bare_decoder decoders)

-- the values of a decoder and what stands at its end, wherever they begin: in any profile that has what is written, whatever positions were
-- read before them, unless values are written by what came with octahedral attributes; those are read behind the positions that they were
-- written behind
abbrev pub DecoderValuesAreRead : Type 0
DecoderValuesAreRead = (plain : Bool) (w : Option Ordered) (found : PositionsRead) (d : DecoderHead) (attributes : List Values)
    → DecoderValuesPass w d.heads attributes → All HeadFits d.heads → MayHaveFewFlags w
    → (n : ℕ) (before : PositionsRead) (entries spent place : ℕ) (rest : List ℕ)
    → IsReadIn n found before (any_came_later d.heads attributes) → HaveEntries entries d.heads attributes
    → spent + values_in attributes ≤ MAX_VALUES
    → decoder_values_at (profile_numbered n) w before (bare_decoder d) entries spent
    (record { place = place; rest = decoder_values_bytes plain w found d.heads attributes ++ rest })
    ≡ Ok (
      (values_placed plain w found place d.heads attributes, d),
      record { place = place + length (decoder_values_bytes plain w found d.heads attributes); rest = rest },
    )
