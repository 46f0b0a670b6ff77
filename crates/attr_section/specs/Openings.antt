-- What attributes open with: the part of them whose faults come before out of memory (this project's choice of where memory is first
-- taken).
use Rattle.std.specs.Prelude.{ℕ, ◌+◌, ◌*◌, ◌==◌, ◌&&◌, List, [], ◌∷◌, Option, None, Some, is_some, is_none, Ok, Err, nat_le, if◌then◌else◌}
use Rattle.drc_base.specs.declared.kinds.Kind.TheVariants as kind
use Rattle.drc_base.specs.Profile.{Profile}
use Rattle.drc_base.specs.Steps.{◌>>=◌}
use Rattle.drc_bits.specs.Reading.{Reading, Item, fault_at}
use Rattle.drc_bits.specs.Numbers.{number_at}
use Rattle.attr_heads.specs.declared.heads.Head.{Head}
use Rattle.symbol_coding.specs.Block.{block_opening_at}
use Rattle.predict.specs.declared.schemes.Prediction.{Prediction}
use Rattle.predict.specs.Schemes.{facts}
use Rattle.corner_table.specs.Ordered.{Ordered}
use Rattle.predict.specs.Surfaces.{lacks_surface}
use Rattle.attr_section.specs.Heads.{decoder_count_at, attribute_count_at}
use Rattle.attr_section.specs.declared.square_predictions.SquarePrediction.{SquarePrediction}
use Rattle.attr_section.specs.Values.{byte_width_at, transform_at, prediction_at}
use Rattle.attr_section.specs.Positions.{Positions, PositionsRead, usable}
use Rattle.attr_section.specs.Textured.{is_textured}
use Rattle.attr_section.specs.Squared.{square_facts, square_prediction_at, square_transform_at}

-- how many attributes the first decoder of a sequential stream has; under Edgebreaker the decoders' links stand before it
abbrev pub first_count_at : Option ℕ → Reading → Item ℕ
first_count_at None c = attribute_count_at 0 c
first_count_at (Some attr_data) c = Ok (0, c)

-- the heads of decoders: how many decoders there are, and how many attributes the first one has
unfoldable pub heads_opening_at : Option ℕ → Reading → Item ℕ
heads_opening_at attr_data c = decoder_count_at c >>= λ n. first_count_at attr_data n.1

-- n integers: how many bytes each has, or what their symbol block opens with
unfoldable pub integers_opening_at : ℕ → Reading → Item ℕ
integers_opening_at n c = do
  compressed ← number_at 1 c
  if compressed.0 == 0 then byte_width_at compressed.1 else block_opening_at n compressed.1

-- n values that are restored from corrections: the transform, and what the corrections open with
unfoldable pub corrected_opening_at : ℕ → Reading → Item ℕ
corrected_opening_at n c = transform_at c >>= λ transform. integers_opening_at n transform.1

-- n values of this prediction, whose byte stands at this place
unfoldable pub predicted_opening_at : ℕ → Option Ordered → Prediction → ℕ → Reading → Item ℕ
predicted_opening_at at w q n c =
    if (facts q).corrects
    then if lacks_surface q w then Err (record { kind = kind.Prediction; at = at }) else corrected_opening_at n c
    else integers_opening_at n c

-- n values whose components are predicted one by one: the prediction, and what they open with by it
unfoldable pub plain_opening_at : Profile → Option Ordered → ℕ → Reading → Item ℕ
plain_opening_at p w n c = prediction_at p c >>= λ q. predicted_opening_at c.place w q.0 n q.1

-- n texture coordinates that are predicted from positions: that there are positions, and what the corrections open with
abbrev pub texture_opening_from : ℕ → Option Ordered → Option Positions → ℕ → Reading → Item ℕ
texture_opening_from at None ps n c = Err (record { kind = kind.Prediction; at = at })
texture_opening_from at (Some w) None n c = Err (record { kind = kind.NoPosition; at = at })
texture_opening_from at (Some w) (Some ps) n c = corrected_opening_at n c

unfoldable pub textured_opening_at : Option Ordered → PositionsRead → ℕ → Reading → Item ℕ
textured_opening_at w found n c = number_at 1 c >>= λ b. texture_opening_from c.place w (usable found) n b.1

-- n octahedral values: the prediction, that there are positions where it takes them, the transform, and what the corrections open with
unfoldable pub square_corrected_opening_at : ℕ → Reading → Item ℕ
square_corrected_opening_at n c = square_transform_at c >>= λ transform. integers_opening_at n transform.1

unfoldable pub square_predicted_opening_at : ℕ → SquarePrediction → PositionsRead → ℕ → Reading → Item ℕ
square_predicted_opening_at at q found n c =
    if (square_facts q).takes_positions && is_none (usable found) then Err (record { kind = kind.NoPosition; at = at })
    else if (square_facts q).corrects then square_corrected_opening_at n c
    else integers_opening_at n c

unfoldable pub squared_opening_at : Profile → Option Ordered → PositionsRead → ℕ → Reading → Item ℕ
squared_opening_at p w found n c = square_prediction_at p w c >>= λ q. square_predicted_opening_at c.place q.0 found n q.1

-- n values of an attribute
abbrev pub unsquared_opening_at : Profile → Option Ordered → PositionsRead → ℕ → ℕ → Reading → Item ℕ
unsquared_opening_at p w found comps n c = if is_textured p w comps c then textured_opening_at w found n c else plain_opening_at p w n c

unfoldable pub typed_opening_at : Profile → Option Ordered → PositionsRead → Head → ℕ → Reading → Item ℕ
typed_opening_at p w found h n c = if is_some h.octa then squared_opening_at p w found n c else unsquared_opening_at p w found h.comps n c

-- the values of an attribute for so many entries, behind so many values of other attributes: that they aren't too many, and what they
-- open with
unfoldable pub values_opening_at : Profile → Option Ordered → PositionsRead → Head → ℕ → ℕ → Reading → Item ℕ
values_opening_at p w found h entries spent c =
    if nat_le (spent + entries * h.comps) p.values then typed_opening_at p w found h (entries * h.comps) c else fault_at kind.ValueLimit c

-- the values of attributes: what those of the first one open with
abbrev pub attributes_opening_at : Profile → Option Ordered → PositionsRead → List Head → ℕ → ℕ → Reading → Item ℕ
attributes_opening_at p w found [] entries spent c = Ok (0, c)
attributes_opening_at p w found (h ∷ heads) entries spent c = values_opening_at p w found h entries spent c
