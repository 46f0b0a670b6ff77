-- The values of octahedral attributes (Draco 1.5.5, canonicalized octahedral transform and geometric normals; Draco Bitstream Specification
-- 2.2, sections "Sequential Attributes" and "Prediction Decoder"; what is refused is this project's choice).
use Rattle.std.specs.Prelude.{ℕ, ◌-◌, ◌/◌, ◌%◌, ◌^◌, ◌==◌, ◌&&◌, ◌||◌, Bool, true, false, not, ℤ, pos, List, [], ◌∷◌, map, find, Option, None, Some}
use Rattle.std.specs.Prelude.{is_none, is_some, Result, Ok, Err, nat_le, if◌then◌else◌}
use Rattle.std.specs.List.{list_all}
use Rattle.drc_base.specs.declared.kinds.Kind.{Kind}
use Rattle.drc_base.specs.declared.kinds.Kind.TheVariants as kind
use Rattle.drc_base.specs.Profile.{Profile}
use Rattle.drc_base.specs.Steps.{◌>>=◌}
use Rattle.drc_bits.specs.Digits.{digits}
use Rattle.drc_bits.specs.Reading.{Reading, Item, must, fault_at}
use Rattle.drc_bits.specs.Numbers.{number_at}
use Rattle.rans_binary.specs.Blocks.{first_bits, bit_block_at}
use Rattle.attr_heads.specs.declared.codings.Coding.TheVariants.{Octahedral}
use Rattle.attr_heads.specs.Codings.{coding_facts}
use Rattle.attr_heads.specs.declared.octahedra.TheConstants.{OCTAHEDRAL_SINCE}
use Rattle.attr_heads.specs.Octahedra.{are_octahedral_bits}
use Rattle.predict.specs.Stepping.{Step}
use Rattle.predict.specs.Symbols.{zigzag_of}
use Rattle.octahedron.specs.declared.points.Point.{Point}
use Rattle.octahedral_values.specs.Steps.{difference, geometric_normal, normals_round, restored_integers}
use Rattle.corner_table.specs.Ordered.{Ordered}
use Rattle.attr_section.specs.declared.square_predictions.SquarePrediction.{SquarePrediction}
use Rattle.attr_section.specs.declared.square_predictions.SquarePrediction.TheVariants as prediction
use Rattle.attr_section.specs.declared.square_predictions.SquareFacts.{SquareFacts}
use Rattle.attr_section.specs.Positions.{Positions, PositionsRead, usable, places_on}
use Rattle.attr_section.specs.Values.{integers_at, restored_at}

-- what is known of a prediction of octahedral values: its byte, whether values are restored from corrections, whether it takes positions
-- over a surface, and since which profile it is read
abbrev pub square_facts : SquarePrediction → SquareFacts
square_facts prediction.Off = record { byte = 254; corrects = false; takes_positions = false; since = OCTAHEDRAL_SINCE }
square_facts prediction.Difference = record { byte = 0; corrects = true; takes_positions = false; since = OCTAHEDRAL_SINCE }
square_facts prediction.Normals = record { byte = 6; corrects = true; takes_positions = true; since = OCTAHEDRAL_SINCE }

abbrev pub square_predictions : List SquarePrediction
square_predictions = prediction.Off ∷ prediction.Difference ∷ prediction.Normals ∷ []

-- the prediction of a byte, where there is one
abbrev pub square_prediction_of : ℕ → Option SquarePrediction
square_prediction_of byte = find (λ q. (square_facts q).byte == byte) square_predictions

-- whether values on a surface can have a prediction in a profile
abbrev pub is_square_prediction : Profile → Option Ordered → SquarePrediction → Bool
is_square_prediction p w q = nat_le (square_facts q).since p.number && (is_some w || not (square_facts q).takes_positions)

-- a prediction that values can have; any other is refused at its byte
abbrev pub tested_square_prediction : Profile → Option Ordered → Reading → Option SquarePrediction → Reading → Item SquarePrediction
tested_square_prediction p w c None after = fault_at kind.Prediction c
tested_square_prediction p w c (Some q) after = if is_square_prediction p w q then Ok (q, after) else fault_at kind.Prediction c

-- the prediction of octahedral values on a surface, where there is one
unfoldable pub square_prediction_at : Profile → Option Ordered → Reading → Item SquarePrediction
square_prediction_at p w c = number_at 1 c >>= λ b. tested_square_prediction p w c (square_prediction_of b.0) b.1

-- the square of corrections: a number of as many binary digits as its coordinates have bits, odd, and the centre, which counts for nothing
abbrev pub is_square : ℕ → Bool
is_square most = most % 2 == 1 && are_octahedral_bits (digits most)

unfoldable pub square_at : Reading → Item ℕ
square_at c = do
  most ← must kind.QuantBits is_square (number_at 4) c
  centre ← number_at 4 most.1
  Ok (digits most.0, centre.1)

-- the flips of n entries: the first bits of a block, which the prediction by normals alone has
unfoldable pub flips_at : SquarePrediction → ℕ → Reading → Item (List Bool)
flips_at q n c = if (square_facts q).takes_positions then (bit_block_at c >>= λ b. Ok (first_bits n b.0, b.1)) else Ok ([], c)

-- the byte of the transform of corrections
unfoldable pub square_transform_at : Reading → Item ℕ
square_transform_at c = must kind.Transform (λ b. b == (coding_facts Octahedral).transform) (number_at 1) c

-- the centre of a square of so many bits, and its greatest coordinate
abbrev pub centre_of : ℕ → ℤ
centre_of bits = pos (2 ^ (bits - 1) - 1)

abbrev pub greatest_coordinate : ℕ → ℕ
greatest_coordinate bits = 2 ^ bits - 2

-- what predicts octahedral values over a surface: the value before, or the normals of the faces round each entry. Where a prediction takes
-- positions, there are some
abbrev pub square_step : SquarePrediction → Option Ordered → Option Positions → ℤ → Step Point (List Bool) Kind
square_step prediction.Normals (Some w) (Some ps) centre = geometric_normal centre (normals_round w.entries (places_on ps w))
square_step prediction.Normals (Some w) None centre = difference
square_step prediction.Normals None ps centre = difference
square_step prediction.Off w ps centre = difference
square_step prediction.Difference w ps centre = difference

-- under the transform of the square a correction is the zigzag symbol itself, and not the integer that it stands for elsewhere; it is a
-- coordinate of the square
abbrev pub is_correction : ℕ → ℤ → Bool
is_correction greatest integer = nat_le (zigzag_of integer) greatest

abbrev pub correction_of : ℤ → ℤ
correction_of integer = pos (zigzag_of integer)

-- the values that the symbols of integers restore, or ValueRange where one of them is no coordinate
unfoldable pub squared : SquarePrediction → Option Ordered → Option Positions → ℕ → List Bool → List ℤ → Result (List ℤ) Kind
squared q w ps bits flips integers =
    if list_all (is_correction (greatest_coordinate bits)) integers
    then restored_integers (square_step q w ps (centre_of bits)) (centre_of bits) flips (map correction_of integers)
    else Err kind.ValueRange

-- n values that are restored from corrections by a prediction, whose byte stands at this place
unfoldable pub square_corrected_at : ℕ → SquarePrediction → Option Ordered → Option Positions → ℕ → Reading → Item (List ℤ)
square_corrected_at at q w ps n c = do
  transform ← square_transform_at c
  integers ← integers_at 2 n transform.1
  bits ← square_at integers.1
  flips ← flips_at q (n / 2) bits.1
  restored_at at (squared q w ps bits.0 flips.0 integers.0) flips.1

-- n values of this prediction, whose byte stands at this place: with no positions to be predicted from, they are refused there
unfoldable pub square_predicted_at : ℕ → SquarePrediction → Option Ordered → PositionsRead → ℕ → Reading → Item (List ℤ)
square_predicted_at at q w found n c =
    if (square_facts q).takes_positions && is_none (usable found) then Err (record { kind = kind.NoPosition; at = at })
    else if (square_facts q).corrects then square_corrected_at at q w (usable found) n c
    else integers_at 2 n c
