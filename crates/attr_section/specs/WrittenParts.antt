-- The bytes of integers, ranges and flags, and of values whose components are predicted one by one (Draco Bitstream Specification 2.2,
-- sections "Sequential Attributes", "Prediction Decoder", "Mesh Parallelogram Prediction" and "Mesh Constrained Multi Parallelogram
-- Prediction"; which of the allowed spellings is written is this project's choice). The values stand on an ordered surface, where there is
-- one.
use Rattle.std.specs.Prelude.{◌≡◌, ◌≤◌, ◌<◌, ℕ, ◌==◌, Bool, true, ℤ, pos}
use Rattle.std.specs.Prelude.{List, [], ◌∷◌, ◌++◌, length, map, flat_map, fold, max, Option, None, Some, nat_lt, if◌then◌else◌, All}
use Rattle.std.specs.Int.{w32, cast_unsigned, int_min, int_max}
use Rattle.drc_bits.specs.Bits.{low_bytes}
use Rattle.drc_bits.specs.Spells.{Spells}
use Rattle.drc_bits.specs.Varint.{spelling}
use Rattle.rans_binary.specs.Blocks.{block}
use Rattle.predict.specs.Wrap.{Range, CanWrap}
use Rattle.predict.specs.declared.schemes.Behind.{Behind}
use Rattle.predict.specs.declared.schemes.Behind.TheVariants as behind
use Rattle.predict.specs.declared.schemes.Prediction.{Prediction}
use Rattle.predict.specs.declared.transforms.Transform.TheVariants as transform
use Rattle.predict.specs.Schemes.{facts, lists_behind, flag_lists, byte_of}
use Rattle.predict.specs.Transforms.{transform_byte}
use Rattle.predict.specs.Symbols.{zigzag_of}
use Rattle.predict.specs.Restored.{corrections}
use Rattle.corner_table.specs.Ordered.{Ordered}
use Rattle.predict.specs.Surfaces.{surface_or, CanStand}
use Rattle.predict.specs.Foretold.{foretold, marks_of, wanted_of}
use Rattle.symbol_coding.specs.Block.{block_bytes}
use Rattle.attr_section.specs.Values.{flags_at, behind_at, predicted_at}

-- the greatest symbol
abbrev pub greatest_symbol : List ℕ → ℕ
greatest_symbol symbols = fold max 0 symbols

-- the fewest bytes that hold a symbol, at least one
abbrev pub byte_width : ℕ → ℕ
byte_width symbol = if nat_lt symbol 256 then 1 else (if nat_lt symbol 65536 then 2 else (if nat_lt symbol 16777216 then 3 else 4))

-- symbols as they are: how many bytes each has, and those
unfoldable pub plain_bytes : List ℕ → List ℕ
plain_bytes symbols = byte_width (greatest_symbol symbols) ∷ flat_map (low_bytes (byte_width (greatest_symbol symbols))) symbols

-- symbols of entries of so many components: as they are, or compressed
abbrev pub symbols_bytes : Bool → ℕ → List ℕ → List ℕ
symbols_bytes plain comps symbols = if plain then 0 ∷ plain_bytes symbols else 1 ∷ block_bytes symbols comps

-- integers of entries of so many components, each by its symbol
unfoldable pub integers_bytes : Bool → ℕ → List ℤ → List ℕ
integers_bytes plain comps values = symbols_bytes plain comps (map zigzag_of values)

-- the range of values
abbrev pub range_of : List ℤ → Range
range_of [] = record { low = pos 0; high = pos 0 }
range_of (v ∷ values) = record { low = fold int_min v values; high = fold int_max v values }

-- a signed number of four bytes
abbrev pub signed_bytes : ℤ → List ℕ
signed_bytes x = low_bytes 4 (cast_unsigned w32 x)

-- a range
abbrev pub range_bytes : Range → List ℕ
range_bytes r = signed_bytes r.low ++ signed_bytes r.high

-- the flags of a list: a block of them, and nothing where there are none
abbrev pub flag_bits_bytes : List Bool → List ℕ
flag_bits_bytes flags = if length flags == 0 then [] else block flags

-- a list of flags: how many, and the flags
unfoldable pub flags_bytes : List Bool → List ℕ
flags_bytes flags = spelling 5 (length flags) ++ flag_bits_bytes flags

-- what stands behind corrections: the flags of their prediction, and the range of the values
abbrev pub behind_bytes : Behind → List (List Bool) → Range → List ℕ
behind_bytes behind.Nothing lists r = range_bytes r
behind_bytes (behind.FlagLists count) lists r = flat_map flags_bytes lists ++ range_bytes r

-- values by this prediction over a surface, with these lists of flags: the transform, the corrections, and what stands behind them
unfoldable pub flagged_bytes : Bool → Ordered → Prediction → ℕ → List (List Bool) → List ℤ → List ℕ
flagged_bytes plain w q comps lists values =
    transform_byte transform.Wrap ∷ (integers_bytes plain comps (corrections (foretold q w comps lists) (range_of values) values)
    ++ behind_bytes (facts q).behind lists (range_of values))

-- values by this prediction over a surface
abbrev pub corrected_bytes : Bool → Ordered → Prediction → ℕ → List ℤ → List ℕ
corrected_bytes plain w q comps values = flagged_bytes plain w q comps (marks_of q w comps values) values

-- values of this prediction, behind its byte
unfoldable pub predicted_bytes : Bool → Option Ordered → Prediction → ℕ → List ℤ → List ℕ
predicted_bytes plain w q comps values =
    if (facts q).corrects then corrected_bytes plain (surface_or w) q comps values else integers_bytes plain comps values

-- values of a prediction, where there is one: its byte, and what it says
abbrev pub prediction_bytes : Bool → Option Ordered → Option Prediction → ℕ → List ℤ → List ℕ
prediction_bytes plain w None comps values = []
prediction_bytes plain w (Some q) comps values = byte_of q ∷ predicted_bytes plain w q comps values

-- values that may have this prediction: a range in which corrections wrap, where it corrects, and a surface, each entry of which has its
-- values, where it needs one
pub record CanPredict (w : Option Ordered) (comps : ℕ) (values : List ℤ) (q : Prediction) : Type 0 where
  pub wrap : (facts q).corrects ≡ true → CanWrap (range_of values)
  pub stand : CanStand q w comps (length values)

-- of no prediction has a list of flags over a surface more of them than there are corners
pub record HasFewFlags (w : Ordered) : Type 0 where
  pub few : (q : Prediction) (k : ℕ) → k < flag_lists q → wanted_of q w k ≤ length w.entries

-- where there is a surface, no list of flags over it has more of them than there are corners
abbrev pub MayHaveFewFlags : Option Ordered → Type 0
MayHaveFewFlags None = Unit {0}
MayHaveFewFlags (Some w) = HasFewFlags w

-- a list of flags, where it is read over no fewer corners than it has flags
pub record FlagsSpelled (flags : List Bool) : Type 0 where
  pub over : (corners : ℕ) → length flags ≤ corners → Spells (flags_at corners) (flags_bytes flags) flags

-- what stands behind corrections, where it is read over no fewer corners than each list has flags
pub record BehindSpelled (b : Behind) (lists : List (List Bool)) (r : Range) : Type 0 where
  pub over : (w : Ordered) → length lists ≡ lists_behind b → All (λ flags. length flags ≤ length w.entries) lists
      → Spells (behind_at b w) (behind_bytes b lists r) (lists, r)

-- values of this prediction, where they are read back
pub record PredictedSpelled (plain : Bool) (w : Option Ordered) (q : Prediction) (comps : ℕ) (values : List ℤ) : Type 0 where
  pub again : MayHaveFewFlags w → (at : ℕ)
      → Spells (predicted_at at w q comps (length values)) (predicted_bytes plain w q comps values) values
