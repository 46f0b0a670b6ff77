-- The bytes of texture coordinates that are predicted from positions (Draco 1.5.5, MeshPredictionSchemeTexCoordsPortableEncoder; what takes
-- the place of that prediction where it can't be used is this project's choice).
use Rattle.std.specs.Prelude.{◌≡◌, ℕ, ◌==◌, ◌&&◌, Bool, ℤ, List, ◌∷◌, ◌++◌, length, reverse, Option, None, Some, Result, Ok, Err}
use Rattle.std.specs.Int.{w8, cast_signed}
use Rattle.std.specs.Ordering.{int_eq}
use Rattle.drc_base.specs.declared.kinds.Kind.{Kind}
use Rattle.drc_base.specs.declared.kinds.Kind.TheVariants as kind
use Rattle.drc_base.specs.Steps.{◌>>=◌}
use Rattle.drc_bits.specs.Bits.{low_bytes}
use Rattle.drc_bits.specs.Spells.{Spells}
use Rattle.rans_binary.specs.Blocks.{block}
use Rattle.wrapped_vectors.specs.declared.places.Place.{Place}
use Rattle.texture_prediction.specs.Orientations.{bits_of}
use Rattle.texture_values.specs.Chosen.{chosen_texture}
use Rattle.texture_values.specs.Corrected.{corrected_texture}
use Rattle.texture_values.specs.Restored.{restored_texture}
use Rattle.corner_table.specs.Ordered.{Ordered}
use Rattle.predict.specs.Wrap.{Range}
use Rattle.predict.specs.declared.schemes.Prediction.TheVariants as prediction
use Rattle.predict.specs.declared.transforms.Transform.TheVariants as transform
use Rattle.predict.specs.Schemes.{code_of}
use Rattle.predict.specs.Transforms.{transform_byte}
use Rattle.attr_section.specs.declared.textured.TheConstants.{TEXTURE_PREDICTION}
use Rattle.attr_section.specs.Positions.{Positions, PositionsRead, usable, places_on}
use Rattle.attr_section.specs.Textured.{texture_corrected_at, textured_at}
use Rattle.attr_section.specs.WrittenParts.{integers_bytes, range_of, range_bytes, prediction_bytes, PredictedSpelled}

-- the number of the prediction of texture coordinates from positions, which is its byte with a sign
abbrev pub texture_code : ℤ
texture_code = cast_signed w8 TEXTURE_PREDICTION

-- whether values of so many components are texture coordinates for which this prediction is asked
abbrev pub is_texture : ℕ → ℤ → Bool
is_texture comps code = int_eq code texture_code && comps == 2

-- the corrections of texture coordinates, and in front of them the orientations that they take
abbrev pub corrected_by_these : Ordered → List Place → List ℤ → List Bool → Result (List Bool × List ℤ) Kind
corrected_by_these w places values orientations =
    corrected_texture w places (range_of values) orientations values >>= λ corrections. Ok (orientations, corrections)

-- what is written of texture coordinates over a surface with the places of its entries: the orientations, that of the last entry first, and
-- the corrections; or the first fault
unfoldable pub projected_texture : Ordered → List Place → List ℤ → Result (List Bool × List ℤ) Kind
projected_texture w places values = chosen_texture w places values >>= λ chosen. corrected_by_these w places values (reverse chosen)

-- the same where there may be no surface, and no positions that can be used
abbrev pub projected_on : Option Ordered → Option Positions → List ℤ → Result (List Bool × List ℤ) Kind
projected_on None ps values = Err kind.Prediction
projected_on (Some w) None values = Err kind.NoPosition
projected_on (Some w) (Some ps) values = projected_texture w (places_on ps w) values

-- orientations: how many, and a block of the bits that say them, also where there are none
unfoldable pub orientations_bytes : List Bool → List ℕ
orientations_bytes orientations = low_bytes 4 (length orientations) ++ block (bits_of orientations)

-- corrections of values in a range: the transform, the corrections, the orientations and the range
unfoldable pub texture_corrected_bytes : Bool → Range → List Bool → List ℤ → List ℕ
texture_corrected_bytes plain r orientations corrections =
    transform_byte transform.Wrap ∷ (integers_bytes plain 2 corrections ++ (orientations_bytes orientations ++ range_bytes r))

-- texture coordinates by what is written of them; where that fails, by a parallelogram
abbrev pub texture_bytes : Bool → Option Ordered → List ℤ → Result (List Bool × List ℤ) Kind → List ℕ
texture_bytes plain w values (Ok x) = TEXTURE_PREDICTION ∷ texture_corrected_bytes plain (range_of values) x.0 x.1
texture_bytes plain w values (Err k) = prediction_bytes plain w (Some prediction.Parallelogram) 2 values

-- the number of the prediction that they are written by
abbrev pub texture_settled : Result (List Bool × List ℤ) Kind → ℤ
texture_settled (Ok x) = texture_code
texture_settled (Err k) = code_of prediction.Parallelogram

-- corrections and what stands behind them, where these are read back over a surface beside positions by which they restore values
pub record TextureCorrected (plain : Bool) (r : Range) (orientations : List Bool) (corrections : List ℤ) : Type 0 where
  pub again : (w : Ordered) (ps : Positions) (values : List ℤ) → length corrections ≡ length values
      → restored_texture w (places_on ps w) r orientations corrections ≡ Ok values → (at : ℕ)
      → Spells (texture_corrected_at at w ps (length values)) (texture_corrected_bytes plain r orientations corrections) values

-- corrections restore values over a surface beside positions, where there are both
abbrev pub RestoresOn : Option Ordered → Option Positions → Range → List Bool → List ℤ → List ℤ → Type 0
RestoresOn None ps r orientations corrections values = ⊥
RestoresOn (Some w) None r orientations corrections values = ⊥
RestoresOn (Some w) (Some ps) r orientations corrections values = restored_texture w (places_on ps w) r orientations corrections ≡ Ok values

-- texture coordinates, where they are read back: by what is written of them behind positions of which these can be used, and by a
-- parallelogram
abbrev pub TextureSpelled : Bool → Option Ordered → Option Positions → List ℤ → Result (List Bool × List ℤ) Kind → Type 0
TextureSpelled plain w ps values (Ok x) =
    (found : PositionsRead) → usable found ≡ ps → Spells (textured_at w found (length values)) (texture_bytes plain w values (Ok x)) values
TextureSpelled plain w ps values (Err k) = PredictedSpelled plain w prediction.Parallelogram 2 values
