-- The bytes of attributes' values and of what stands at the end of their decoder (Draco Bitstream Specification 2.2, sections "Sequential
-- Attributes", "Prediction Decoder" and "Quantization"; Draco 1.5.5, canonicalized octahedral transform, geometric normals and portable
-- texture coordinates; which of the allowed spellings is written is this project's choice). The values stand on an ordered surface, where
-- there is one, behind what stands in the stream of the positions.
use Rattle.drc_base.specs.Profile.{profile, profile_numbered}
use Rattle.std.specs.Prelude.{◌≡◌, ◌≤◌, ◌<◌, ℕ, ◌+◌, ◌*◌, ◌%◌, ◌^◌, ◌||◌, Bool, true, false, ℤ, IsTrue, if◌then◌else◌, All}
use Rattle.std.specs.Prelude.{List, [], ◌∷◌, ◌++◌, length, flat_map, Option, None, Some, is_some, Ok}
use Rattle.std.specs.List.{list_all, list_any, zip}
use Rattle.drc_base.specs.declared.limits.TheConstants.{MAX_VALUES}
use Rattle.drc_bits.specs.Bits.{low_bytes}
use Rattle.drc_bits.specs.Spells.{Spells}
use Rattle.attr_heads.specs.declared.heads.Head.{Head}
use Rattle.attr_heads.specs.declared.quants.Quant.{Quant}
use Rattle.attr_heads.specs.declared.octahedra.TheConstants.{OCTAHEDRAL_SINCE, OCTAHEDRAL_INTEGERS}
use Rattle.attr_heads.specs.DataTypes.{is_float}
use Rattle.attr_heads.specs.Bounds.{in_bounds, bounds_of}
use Rattle.attr_heads.specs.HeadItems.{bare_head}
use Rattle.attr_heads.specs.Octahedra.{are_octahedral_bits}
use Rattle.predict.specs.declared.schemes.Prediction.{Prediction}
use Rattle.predict.specs.declared.schemes.Prediction.TheVariants as prediction
use Rattle.predict.specs.Schemes.{code_of, prediction_coded}
use Rattle.corner_table.specs.Ordered.{Ordered}
use Rattle.attr_section.specs.declared.values.Values.{Values}
use Rattle.attr_section.specs.declared.square_predictions.SquarePrediction.{SquarePrediction}
use Rattle.attr_section.specs.Positions.{Positions, PositionsRead, with_attribute, entries_on, usable}
use Rattle.attr_section.specs.Squared.{square_facts}
use Rattle.attr_section.specs.Attributes.{values_at, completed_at}
use Rattle.attr_section.specs.WrittenParts.{prediction_bytes, CanPredict, MayHaveFewFlags}
use Rattle.attr_section.specs.WrittenSquares.{square_code, square_prediction_bytes, settled_square_coded, square_code_or}
use Rattle.attr_section.specs.WrittenTexture.{is_texture, projected_on, texture_bytes, texture_settled}

-- the values of an attribute without a square, of so many components
abbrev pub unsquared_bytes : Bool → Option Ordered → Option Positions → ℕ → Values → List ℕ
unsquared_bytes plain w ps comps v =
    if is_texture comps v.predict
    then texture_bytes plain w v.values (projected_on w ps v.values)
    else prediction_bytes plain w (prediction_coded v.predict) comps v.values

-- the values of an attribute, with a square of so many bits or without one: the byte of the prediction, and what it says
abbrev pub values_bytes_under : Bool → Option Ordered → Option Positions → Option ℕ → ℕ → Values → List ℕ
values_bytes_under plain w ps None comps v = unsquared_bytes plain w ps comps v
values_bytes_under plain w ps (Some bits) comps v = square_prediction_bytes plain (settled_square_coded w ps bits v) w ps bits v.values

unfoldable pub values_bytes : Bool → Option Ordered → PositionsRead → Head → Values → List ℕ
values_bytes plain w found h v = values_bytes_under plain w (usable found) h.octa h.comps v

-- the number of the prediction that they are written by, where one is asked for by its number: normals that need what isn't there,
-- values of a square in another spelling than the canonical one, and texture coordinates that can't be projected, have another one
abbrev pub settled_under : Option Ordered → Option Positions → Option ℕ → ℕ → Values → ℤ
settled_under w ps None comps v = if is_texture comps v.predict then texture_settled (projected_on w ps v.values) else v.predict
settled_under w ps (Some bits) comps v = square_code_or v.predict (settled_square_coded w ps bits v)

unfoldable pub settled : Option Ordered → PositionsRead → Head → Values → ℤ
settled w found h v = settled_under w (usable found) h.octa h.comps v

-- what stands of the positions behind an attribute on a surface
abbrev pub found_behind : Option Ordered → PositionsRead → Head → Values → PositionsRead
found_behind w found h v = with_attribute found h v.values (entries_on w)

-- the values of attributes, one after another
abbrev pub attributes_bytes : Bool → Option Ordered → PositionsRead → List Head → List Values → List ℕ
attributes_bytes plain w found [] attributes = []
attributes_bytes plain w found (h ∷ heads) [] = []
attributes_bytes plain w found (h ∷ heads) (v ∷ attributes) =
    values_bytes plain w found h v ++ attributes_bytes plain w (found_behind w found h v) heads attributes

-- a quantisation: the minima, the range, the bits
abbrev pub quant_bytes : Option Quant → List ℕ
quant_bytes None = []
quant_bytes (Some q) = flat_map (low_bytes 4) q.min ++ (low_bytes 4 q.range ++ q.bits ∷ [])

-- what stands for a head at the end of its decoder: the bits of its square, or its quantisation
abbrev pub end_bytes_under : Option Quant → Option ℕ → List ℕ
end_bytes_under quant None = quant_bytes quant
end_bytes_under quant (Some bits) = bits ∷ []

abbrev pub end_bytes : Head → List ℕ
end_bytes h = end_bytes_under h.quant h.octa

-- what stands for heads at the end of their decoder
abbrev pub ends_bytes : List Head → List ℕ
ends_bytes heads = flat_map end_bytes heads

-- a decoder's values, and then what stands at its end
unfoldable pub decoder_values_bytes : Bool → Option Ordered → PositionsRead → List Head → List Values → List ℕ
decoder_values_bytes plain w found heads attributes = attributes_bytes plain w found heads attributes ++ ends_bytes heads

-- a head has a quantisation exactly where its values are quantised floats, with a minimum for each component
abbrev pub HasQuant : Head → Option Quant → Type 0
HasQuant h None = is_float h.dtype ≡ false
HasQuant h (Some q) = (is_float h.dtype ≡ true) × (length q.min ≡ h.comps) × (1 ≤ q.bits) × (q.bits ≤ 30)

-- a head with a square of so many bits has no quantisation, and so many bits as the coordinates of a square may have; one without a square
-- has a quantisation where it is due
abbrev pub HasEnd : Head → Option ℕ → Type 0
HasEnd h None = HasQuant h h.quant
HasEnd h (Some bits) = (h.quant ≡ None) × IsTrue (are_octahedral_bits bits)

-- the numbers of a quantisation have 32 bits
abbrev pub QuantFits : Option Quant → Type 0
QuantFits None = Unit {0}
QuantFits (Some q) = All (λ m. m < 2 ^ 32) q.min × (q.range < 2 ^ 32)

-- n values of octahedral points are those of the entries of a surface, where there is one, and each corner of it has an entry
abbrev pub MayHavePoints : Option Ordered → ℕ → Type 0
MayHavePoints None n = Unit {0}
MayHavePoints (Some w) n = (n ≡ length w.corners * OCTAHEDRAL_INTEGERS) × All (λ (e : ℕ). e < length w.corners) w.entries

-- n values of octahedral points that may have this prediction in a square of so many bits
pub record CanPredictSquare (w : Option Ordered) (bits comps n : ℕ) (q : SquarePrediction) : Type 0 where
  pub square : IsTrue (are_octahedral_bits bits)
  pub coordinates : comps ≡ OCTAHEDRAL_INTEGERS
  pub points : (square_facts q).takes_positions ≡ true → MayHavePoints w n

-- the number of the prediction by single components that is asked for: texture coordinates that can't be projected have that by a
-- parallelogram
abbrev pub plain_code : ℕ → ℤ → ℤ
plain_code comps code = if is_texture comps code then code_of prediction.Parallelogram else code

-- values for which a prediction is asked, by its number, that they may have, in a square of so many bits or without one
abbrev pub CanAsk : Option Ordered → Option ℕ → ℕ → ℤ → List ℤ → Type 0
CanAsk w None comps code values = (q : Prediction) × (plain_code comps code ≡ code_of q) × CanPredict w comps values q
CanAsk w (Some bits) comps code values = (q : SquarePrediction) × (code ≡ square_code q) × CanPredictSquare w bits comps (length values) q

-- values that an attribute may have: whole entries, at least one, each in the bounds of the data type or of the square, and a prediction
-- that they may have
pub record ValuesPass (w : Option Ordered) (h : Head) (v : Values) : Type 0 where
  pub comps : 0 < h.comps
  pub some : 0 < length v.values
  pub few : length v.values ≤ MAX_VALUES
  pub whole : length v.values % h.comps ≡ 0
  pub bounded : list_all (in_bounds (bounds_of h)) v.values ≡ true
  pub asked : CanAsk w h.octa h.comps v.predict v.values

-- each attribute has its values, and what is due stands at the end
pub record DecoderValuesPass (w : Option Ordered) (heads : List Head) (attributes : List Values) : Type 0 where
  pub each_head : length attributes ≡ length heads
  pub ends : All (λ h. HasEnd h h.octa) heads
  pub each : All (λ (h, v). ValuesPass w h v) (zip heads attributes)

-- the values with the places of their prediction bytes and the numbers of their predictions, where they are written from this place on
abbrev pub values_placed : Bool → Option Ordered → PositionsRead → ℕ → List Head → List Values → List Values
values_placed plain w found place [] attributes = []
values_placed plain w found place (h ∷ heads) [] = []
values_placed plain w found place (h ∷ heads) (v ∷ attributes) =
    record v { predict = settled w found h v; at = place }
    ∷ values_placed plain w (found_behind w found h v) (place + length (values_bytes plain w found h v)) heads attributes

-- attributes have so many entries
abbrev pub HaveEntries : ℕ → List Head → List Values → Type 0
HaveEntries entries heads attributes = All (λ (h, v). length v.values ≡ entries * h.comps) (zip heads attributes)

-- whether an attribute is written by what came with octahedral attributes: a square, or texture coordinates from positions
abbrev pub came_later : Head → Values → Bool
came_later h v = is_some h.octa || is_texture h.comps v.predict

abbrev pub any_came_later : List Head → List Values → Bool
any_came_later heads attributes = list_any (λ (h, v). came_later h v) (zip heads attributes)

-- a profile and what was read of the positions, by which values are read that were written behind what was found of the positions: the
-- same of the positions, and a profile that has what came later, where that is written
pub record IsReadIn (n : ℕ) (found before : PositionsRead) (later : Bool) : Type 0 where
  pub least : profile.number ≤ n
  pub since : later ≡ true → OCTAHEDRAL_SINCE ≤ n
  pub same : later ≡ true → before ≡ found

-- the values of an attribute, where they are read from wherever they were written
pub record ValuesSpelled (plain : Bool) (w : Option Ordered) (found : PositionsRead) (h : Head) (v : Values) : Type 0 where
  pub reads : MayHaveFewFlags w → (n : ℕ) (before : PositionsRead) (entries spent place : ℕ) (rest : List ℕ)
      → IsReadIn n found before (came_later h v) → length v.values ≡ entries * h.comps → spent + length v.values ≤ MAX_VALUES
      → values_at (profile_numbered n) w before (bare_head h) entries spent
      (record { place = place; rest = values_bytes plain w found h v ++ rest })
      ≡ Ok (
        record v { predict = settled w found h v; at = place },
        record { place = place + length (values_bytes plain w found h v); rest = rest },
      )

-- the values of attributes, each behind what stands of the positions there
abbrev pub AttributesSpelled : Bool → Option Ordered → PositionsRead → List Head → List Values → Type 0
AttributesSpelled plain w found [] attributes = Unit {0}
AttributesSpelled plain w found (h ∷ heads) [] = Unit {0}
AttributesSpelled plain w found (h ∷ heads) (v ∷ attributes) =
    ValuesSpelled plain w found h v × AttributesSpelled plain w (found_behind w found h v) heads attributes

-- what stands for a head at the end of its decoder, where it is read back beside values within its bounds
pub record EndSpelled (h : Head) : Type 0 where
  pub beside : (v : Values) → list_all (in_bounds (bounds_of h)) v.values ≡ true → Spells (completed_at (bare_head h) v) (end_bytes h) h
