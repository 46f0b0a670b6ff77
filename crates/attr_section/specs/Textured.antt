-- Texture coordinates that are predicted from positions (Draco 1.5.5, portable texture coordinates; what is refused is this project's
-- choice).
use Rattle.std.specs.Prelude.{ℕ, ◌/◌, ◌==◌, ◌&&◌, Bool, false, ℤ, List, [], ◌∷◌, Option, None, Some, is_some, Ok, Err, nat_le}
use Rattle.drc_base.specs.declared.kinds.Kind.TheVariants as kind
use Rattle.drc_base.specs.Profile.{Profile}
use Rattle.drc_base.specs.Steps.{◌>>=◌}
use Rattle.drc_bits.specs.Reading.{Reading, Item, must}
use Rattle.drc_bits.specs.Numbers.{number_at}
use Rattle.rans_binary.specs.Blocks.{first_bits, bit_block_at}
use Rattle.texture_prediction.specs.Orientations.{orientations_of}
use Rattle.texture_values.specs.Restored.{restored_texture}
use Rattle.corner_table.specs.Ordered.{Ordered}
use Rattle.attr_section.specs.declared.textured.TheConstants.{TEXTURE_PREDICTION, TEXTURE_SINCE}
use Rattle.attr_section.specs.Positions.{Positions, PositionsRead, usable, places_on}
use Rattle.attr_section.specs.Values.{integers_at, range_at, restored_at, transform_at}

-- whether the next byte is this one
abbrev pub next_is : ℕ → List ℕ → Bool
next_is byte [] = false
next_is byte (b ∷ bytes) = b == byte

-- whether values are predicted from positions as texture coordinates: two components on a surface whose prediction byte says so, in a
-- profile that has it
abbrev pub is_textured : Profile → Option Ordered → ℕ → Reading → Bool
is_textured p w comps c =
    nat_le TEXTURE_SINCE p.number && (comps == 2 && (is_some w && next_is TEXTURE_PREDICTION c.rest))

-- the orientations of so many entries: at most one each, then a block of bits, also where there are none
unfoldable pub orientations_at : ℕ → Reading → Item (List Bool)
orientations_at entries c = do
  count ← must kind.FlagCount (λ n. nat_le n entries) (number_at 4) c
  block ← bit_block_at count.1
  Ok (orientations_of (first_bits count.0 block.0), block.1)

-- n values, whose prediction byte stands at this place, over a surface, from positions
unfoldable pub texture_corrected_at : ℕ → Ordered → Positions → ℕ → Reading → Item (List ℤ)
texture_corrected_at at w ps n c = do
  transform ← transform_at c
  corrections ← integers_at 2 n transform.1
  orientations ← orientations_at (n / 2) corrections.1
  range ← range_at orientations.1
  restored_at at (restored_texture w (places_on ps w) range.0 orientations.0 corrections.0) range.1

-- the same from the positions that were read; with none to be predicted from they are refused
abbrev pub texture_from : ℕ → Option Ordered → Option Positions → ℕ → Reading → Item (List ℤ)
texture_from at None ps n c = Err (record { kind = kind.Prediction; at = at })
texture_from at (Some w) None n c = Err (record { kind = kind.NoPosition; at = at })
texture_from at (Some w) (Some ps) n c = texture_corrected_at at w ps n c

-- n values whose prediction byte is next
unfoldable pub textured_at : Option Ordered → PositionsRead → ℕ → Reading → Item (List ℤ)
textured_at w found n c = number_at 1 c >>= λ b. texture_from c.place w (usable found) n b.1
