-- The bytes of octahedral values (Draco 1.5.5, canonicalized octahedral transform and geometric normals; Draco Bitstream Specification 2.2,
-- sections "Sequential Attributes" and "Prediction Decoder"; what takes the place of a prediction that can't be used is this project's
-- choice). The values stand on an ordered surface, where there is one, and beside positions, where these can be used.
use Rattle.std.specs.Prelude.{◌≡◌, ℕ, ◌-◌, ◌^◌, ◌&&◌, Bool, ℤ, unsigned_abs, if◌then◌else◌}
use Rattle.std.specs.Prelude.{List, [], ◌∷◌, ◌++◌, length, map, find, Option, None, Some, is_some, option_map}
use Rattle.std.specs.Int.{w8, cast_signed}
use Rattle.std.specs.List.{list_all}
use Rattle.std.specs.Ordering.{int_eq}
use Rattle.std.specs.Result.{result_unwrap_or}
use Rattle.drc_bits.specs.Bits.{low_bytes}
use Rattle.drc_bits.specs.Spells.{Spells}
use Rattle.rans_binary.specs.Blocks.{block}
use Rattle.attr_heads.specs.declared.codings.Coding.TheVariants.{Octahedral}
use Rattle.attr_heads.specs.Codings.{coding_facts}
use Rattle.octahedron.specs.declared.points.Point.{Point}
use Rattle.octahedron.specs.Square.{centred, canonical}
use Rattle.octahedron.specs.Pairs.{pairs_of}
use Rattle.octahedral_values.specs.Steps.{normals_round, flips_of, corrected_integers}
use Rattle.corner_table.specs.Ordered.{Ordered}
use Rattle.attr_section.specs.declared.square_predictions.SquarePrediction.{SquarePrediction}
use Rattle.attr_section.specs.declared.square_predictions.SquarePrediction.TheVariants as prediction
use Rattle.attr_section.specs.declared.values.Values.{Values}
use Rattle.attr_section.specs.Positions.{Positions, PositionsRead, usable, places_on}
use Rattle.attr_section.specs.Squared.{square_facts, square_predictions, square_step, square_predicted_at, centre_of}
use Rattle.attr_section.specs.WrittenParts.{symbols_bytes, integers_bytes}

-- the number of a prediction, which is its byte with a sign, and the prediction of a number, where there is one
abbrev pub square_code : SquarePrediction → ℤ
square_code q = cast_signed w8 (square_facts q).byte

abbrev pub square_prediction_coded : ℤ → Option SquarePrediction
square_prediction_coded code = find (λ q. int_eq (square_code q) code) square_predictions

-- whether two points are one
abbrev pub same_point : Point → Point → Bool
same_point p q = int_eq p.s q.s && int_eq p.t q.t

-- whether all values, two integers for each, are in canonical spelling
unfoldable pub are_canonical : ℤ → List ℤ → Bool
are_canonical c values = list_all (λ v. same_point (canonical c (centred c v)) (centred c v)) (pairs_of values)

-- normals need a surface and positions: without these, values are predicted by the difference in their place
abbrev pub square_prediction_on : Option Ordered → Option Positions → SquarePrediction → SquarePrediction
square_prediction_on w ps prediction.Normals = if is_some w && is_some ps then prediction.Normals else prediction.Difference
square_prediction_on w ps prediction.Difference = prediction.Difference
square_prediction_on w ps prediction.Off = prediction.Off

-- the prediction that values are written by where this one is asked for: none, where they would come back in another spelling
unfoldable pub settled_square : Option Ordered → Option Positions → ℕ → List ℤ → SquarePrediction → SquarePrediction
settled_square w ps bits values q = if are_canonical (centre_of bits) values then square_prediction_on w ps q else prediction.Off

-- the flips that are written with values: those chosen by the normals of the faces round each entry
abbrev pub square_flips : SquarePrediction → Option Ordered → Option Positions → ℤ → List ℤ → List Bool
square_flips prediction.Normals (Some w) (Some ps) c values = flips_of c (normals_round w.entries (places_on ps w)) (pairs_of values)
square_flips prediction.Normals (Some w) None c values = []
square_flips prediction.Normals None ps c values = []
square_flips prediction.Difference w ps c values = []
square_flips prediction.Off w ps c values = []

-- the corrections of values with these flips
unfoldable pub square_corrections : SquarePrediction → Option Ordered → Option Positions → ℤ → List Bool → List ℤ → List ℤ
square_corrections q w ps c flips values = result_unwrap_or (corrected_integers (square_step q w ps c) c flips values) []

-- a square of so many bits: the greatest number of as many binary digits, and the centre
unfoldable pub square_bytes : ℕ → List ℕ
square_bytes bits = low_bytes 4 (2 ^ bits - 1) ++ low_bytes 4 (2 ^ (bits - 1) - 1)

-- flips: a block of them, which the prediction by normals alone has
abbrev pub flips_bytes : SquarePrediction → List Bool → List ℕ
flips_bytes q flips = if (square_facts q).takes_positions then block flips else []

-- corrections in a square, each of which is its own symbol: the transform, the symbols, the square and the flips
unfoldable pub square_corrected_bytes : Bool → SquarePrediction → ℕ → List Bool → List ℤ → List ℕ
square_corrected_bytes plain q bits flips corrections =
    (coding_facts Octahedral).transform
    ∷ (symbols_bytes plain 2 (map unsigned_abs corrections) ++ (square_bytes bits ++ flips_bytes q flips))

-- values with these flips by a prediction that corrects
abbrev pub square_flipped_bytes : Bool → SquarePrediction → Option Ordered → Option Positions → ℕ → List Bool → List ℤ → List ℕ
square_flipped_bytes plain q w ps bits flips values =
    square_corrected_bytes plain q bits flips (square_corrections q w ps (centre_of bits) flips values)

-- values of this prediction, behind its byte
unfoldable pub square_predicted_bytes : Bool → SquarePrediction → Option Ordered → Option Positions → ℕ → List ℤ → List ℕ
square_predicted_bytes plain q w ps bits values =
    if (square_facts q).corrects
    then square_flipped_bytes plain q w ps bits (square_flips q w ps (centre_of bits) values) values
    else integers_bytes plain 2 values

-- values by a prediction, where there is one: its byte, and what it says
abbrev pub square_prediction_bytes : Bool → Option SquarePrediction → Option Ordered → Option Positions → ℕ → List ℤ → List ℕ
square_prediction_bytes plain None w ps bits values = []
square_prediction_bytes plain (Some q) w ps bits values = (square_facts q).byte ∷ square_predicted_bytes plain q w ps bits values

-- the prediction that is settled, where one is asked for by its number
abbrev pub settled_square_coded : Option Ordered → Option Positions → ℕ → Values → Option SquarePrediction
settled_square_coded w ps bits v = option_map (settled_square w ps bits v.values) (square_prediction_coded v.predict)

-- its number, where there is one, else another
abbrev pub square_code_or : ℤ → Option SquarePrediction → ℤ
square_code_or code None = code
square_code_or code (Some q) = square_code q

-- values of this prediction, where they are read back behind positions of which these can be used
pub record SquareSpelled (plain : Bool) (q : SquarePrediction) (w : Option Ordered) (ps : Option Positions) (bits : ℕ) (values : List ℤ)
    : Type 0 where
  pub again : (found : PositionsRead) → usable found ≡ ps → (at : ℕ)
      → Spells (square_predicted_at at q w found (length values)) (square_predicted_bytes plain q w ps bits values) values
