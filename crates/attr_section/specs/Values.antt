-- The values of attributes (Draco Bitstream Specification 2.2, sections "Sequential Attributes", "Prediction Decoder", "Mesh
-- Parallelogram Prediction", "Mesh Constrained Multi Parallelogram Prediction" and "Quantization"; the limits and what is
-- refused are this project's choice). The values of a stream's decoder stand on its ordered surface, where there is one:
-- there is none in a sequential stream.
use Rattle.std.specs.Prelude.{ℕ, ◌-◌, ◌/◌, ◌%◌, ◌^◌, ◌==◌, ◌&&◌, Bool, ℤ, pos, negsuc, ◌-ℤ◌, List, []}
use Rattle.std.specs.Prelude.{length, map, Option, None, Some, Result, Ok, Err, nat_le, int_le, int_lt, if◌then◌else◌}
use Rattle.drc_base.specs.declared.kinds.Kind.{Kind}
use Rattle.drc_base.specs.declared.kinds.Kind.TheVariants as kind
use Rattle.drc_base.specs.Profile.{Profile}
use Rattle.drc_base.specs.Steps.{◌>>=◌}
use Rattle.drc_bits.specs.Reading.{Reading, Item, must, many_at, fault_at}
use Rattle.drc_bits.specs.Numbers.{number_at, signed_at}
use Rattle.drc_bits.specs.Varint.{var32_at}
use Rattle.rans_binary.specs.Blocks.{first_bits, bit_block_at}
use Rattle.predict.specs.Wrap.{Range}
use Rattle.symbol_coding.specs.Block.{block_at}
use Rattle.predict.specs.declared.schemes.Behind.{Behind}
use Rattle.predict.specs.declared.schemes.Behind.TheVariants as behind
use Rattle.predict.specs.declared.schemes.Prediction.{Prediction}
use Rattle.predict.specs.declared.transforms.Transform.{Transform}
use Rattle.predict.specs.Schemes.{facts, prediction_of}
use Rattle.predict.specs.Transforms.{transform_of}
use Rattle.corner_table.specs.Ordered.{Ordered}
use Rattle.predict.specs.Surfaces.{surface_or, lacks_surface}
use Rattle.predict.specs.Foretold.{restored_with}

-- a prediction that a profile has; any other is refused at its byte
abbrev pub tested_prediction : Profile → Reading → Option Prediction → Reading → Item Prediction
tested_prediction p c None after = fault_at kind.Prediction c
tested_prediction p c (Some q) after = if nat_le (facts q).since p.number then Ok (q, after) else fault_at kind.Prediction c

-- the prediction of an attribute in a profile
unfoldable pub prediction_at : Profile → Reading → Item Prediction
prediction_at p c = number_at 1 c >>= λ b. tested_prediction p c (prediction_of b.0) b.1

-- the integer of a zigzag symbol: 0, -1, 1, -2 and so on
abbrev pub signed_of : ℕ → ℤ
signed_of symbol = if symbol % 2 == 0 then pos (symbol / 2) else negsuc (symbol / 2)

-- the integer of a zigzag symbol of so many bytes
unfoldable pub plain_value_at : ℕ → Reading → Item ℤ
plain_value_at width c = number_at width c >>= λ x. Ok (signed_of x.0, x.1)

-- how many bytes a plain value has
unfoldable pub byte_width_at : Reading → Item ℕ
byte_width_at c = must kind.ByteWidth (λ w. nat_le 1 w && nat_le w 4) (number_at 1) c

-- n integers as they are
unfoldable pub plain_values_at : ℕ → Reading → Item (List ℤ)
plain_values_at n c = do
  width ← byte_width_at c
  many_at (plain_value_at width.0) n width.1

-- the range of a wrap; corrections can wrap in it
abbrev pub can_wrap : Range → Bool
can_wrap r = int_le r.low r.high && int_lt (r.high -ℤ r.low) (pos (2 ^ 31 - 1))

-- a range, which is refused at its start
abbrev pub tested_range : Reading → Range → Reading → Item Range
tested_range c r after = if can_wrap r then Ok (r, after) else fault_at kind.WrapRange c

-- the range of an attribute's values
unfoldable pub range_at : Reading → Item Range
range_at c = do
  low ← signed_at c
  high ← signed_at low.1
  tested_range c (record { low = low.0; high = high.0 }) high.1

-- a transform of corrections; a byte of none is refused at its place
abbrev pub tested_transform : Reading → Option Transform → Reading → Item Transform
tested_transform c None after = fault_at kind.Transform c
tested_transform c (Some t) after = Ok (t, after)

-- the transform of corrections
unfoldable pub transform_at : Reading → Item Transform
transform_at c = number_at 1 c >>= λ b. tested_transform c (transform_of b.0) b.1

-- n integers of entries of so many components, in a symbol block
unfoldable pub compressed_values_at : ℕ → ℕ → Reading → Item (List ℤ)
compressed_values_at comps n c = block_at n comps c >>= λ x. Ok (map signed_of x.0, x.1)

-- n integers of entries of so many components: as they are, or compressed
unfoldable pub integers_at : ℕ → ℕ → Reading → Item (List ℤ)
integers_at comps n c = do
  compressed ← number_at 1 c
  if compressed.0 == 0 then plain_values_at n compressed.1 else compressed_values_at comps n compressed.1

-- so many flags: the first bits of a block, and no block where there are none. What a block has behind them counts for nothing
unfoldable pub flag_bits_at : ℕ → Reading → Item (List Bool)
flag_bits_at count c = if count == 0 then Ok ([], c) else (bit_block_at c >>= λ b. Ok (first_bits count b.0, b.1))

-- how many flags a list over so many corners has: at most one for each corner, so three for each face
abbrev pub flag_count_at : ℕ → Reading → Item ℕ
flag_count_at corners c = must kind.FlagCount (λ n. nat_le n corners) var32_at c

-- a list of flags over so many corners: true leaves a parallelogram out
unfoldable pub flags_at : ℕ → Reading → Item (List Bool)
flags_at corners c = do
  count ← flag_count_at corners c
  flag_bits_at count.0 count.1

-- so many lists of flags over a surface
unfoldable pub flag_lists_at : ℕ → Ordered → Reading → Item (List (List Bool))
flag_lists_at count w c = many_at (flags_at (length w.entries)) count c

-- what stands behind corrections over a surface: the flags of their prediction, and the range of the values
unfoldable pub behind_at : Behind → Ordered → Reading → Item (List (List Bool) × Range)
behind_at behind.Nothing w c = range_at c >>= λ range. Ok (([], range.0), range.1)
behind_at (behind.FlagLists count) w c = do
  lists ← flag_lists_at count w c
  range ← range_at lists.1
  Ok ((lists.0, range.0), range.1)

-- values that are restored; where they can't be, they are refused at this place
abbrev pub restored_at : ℕ → Result (List ℤ) Kind → Reading → Item (List ℤ)
restored_at at (Ok values) after = Ok (values, after)
restored_at at (Err k) after = Err (record { kind = k; at = at })

-- n values that are restored from corrections by this prediction, whose byte stands at this place, over a surface: the transform, the
-- corrections, and what stands behind them
unfoldable pub corrected_at : ℕ → Ordered → Prediction → ℕ → ℕ → Reading → Item (List ℤ)
corrected_at at w q comps n c = do
  transform ← transform_at c
  corrections ← integers_at comps n transform.1
  behind ← behind_at (facts q).behind w corrections.1
  restored_at at (restored_with transform.0 q w comps behind.0.0 behind.0.1 corrections.0) behind.1

-- n values of this prediction, whose byte stands at this place; where it needs a surface that isn't there, they are refused at this place
unfoldable pub predicted_at : ℕ → Option Ordered → Prediction → ℕ → ℕ → Reading → Item (List ℤ)
predicted_at at w q comps n c =
    if (facts q).corrects
    then if lacks_surface q w then Err (record { kind = kind.Prediction; at = at }) else corrected_at at (surface_or w) q comps n c
    else integers_at comps n c
