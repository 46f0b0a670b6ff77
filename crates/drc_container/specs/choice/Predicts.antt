-- What a word for all attributes asks of the prediction of each (Draco Bitstream Specification 2.2, section "Prediction Decoder"; Draco
-- 1.5.5, prediction scheme methods; the words and what they ask are this project's choice).
use Rattle.std.specs.Prelude.{ℕ, ◌==◌, ◌&&◌, ◌||◌, ℤ, Bool, true, false, List, [], ◌∷◌, codes, is_some, if◌then◌else◌}
use Rattle.std.specs.List.{list_any}
use Rattle.drc_base.specs.declared.profiles.TheConstants.{PROFILE_THREE, PROFILE_TWO}
use Rattle.attr_heads.specs.declared.heads.Head.{Head}
use Rattle.attr_heads.specs.declared.usages.TheConstants.{TEXTURE_COORDINATE}
use Rattle.predict.specs.declared.schemes.Prediction.{Prediction}
use Rattle.predict.specs.declared.schemes.Prediction.TheVariants as prediction
use Rattle.predict.specs.Schemes.{facts, prediction_word, code_of}
use Rattle.attr_section.specs.declared.square_predictions.SquarePrediction.{SquarePrediction}
use Rattle.attr_section.specs.declared.square_predictions.SquarePrediction.TheVariants as square
use Rattle.attr_section.specs.WrittenSquares.{square_code}
use Rattle.attr_section.specs.WrittenTexture.{texture_code}
use Rattle.drc_container.specs.declared.choice.predicts.Predict.{Predict}
use Rattle.drc_container.specs.declared.choice.predicts.Predict.TheVariants.{Plain, Shape}

-- the words
abbrev pub predict_word : Predict → List ℕ
predict_word (Plain q) = prediction_word q
predict_word Shape = codes "shape"

abbrev pub predicts : List Predict
predicts =
    Plain prediction.Off
    ∷ Plain prediction.Difference
    ∷ Plain prediction.Parallelogram
    ∷ Plain prediction.Multi
    ∷ Shape
    ∷ []

-- the prediction of values that are predicted component by component
abbrev pub plain_of : Predict → Prediction
plain_of (Plain q) = q
plain_of Shape = prediction.Parallelogram

-- whether texture coordinates are predicted from positions
abbrev pub takes_texture : Predict → Bool
takes_texture (Plain q) = false
takes_texture Shape = true

-- the prediction of octahedral values beside one of values component by component: by the normals of faces where that one needs a
-- surface, by the entry before where it corrects otherwise, and else none
abbrev pub square_of : Prediction → SquarePrediction
square_of q = if (facts q).needs_surface then square.Normals else (if (facts q).corrects then square.Difference else square.Off)

-- whether an attribute without a square has texture coordinates: pairs of the usage of these
abbrev pub has_texture : Head → Bool
has_texture h = (h.usage == TEXTURE_COORDINATE) && (h.comps == 2)

-- the number of the prediction that is asked of an attribute
unfoldable pub asked : Predict → Head → ℤ
asked p h =
    if is_some h.octa then square_code (square_of (plain_of p))
    else (if takes_texture p && has_texture h then texture_code else code_of (plain_of p))

-- the number of the first profile that has all that is written of attributes with these heads: profile 3 came with squares and with what
-- is predicted from positions
abbrev pub needed_number : Predict → List Head → ℕ
needed_number p heads = if takes_texture p || list_any (λ h. is_some h.octa) heads then PROFILE_THREE.number else PROFILE_TWO.number
