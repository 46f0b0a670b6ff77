-- Values of a square from corrections, each by a prediction from the values before (Draco Bitstream Specification 2.2, section "Prediction
-- Difference", with the canonicalized octahedral transform of Draco 1.5.5).
use Rattle.std.specs.Prelude.{ℤ, pos, List, [], ◌∷◌, ◌++◌}
use Rattle.octahedron.specs.declared.points.Point.{Point}
use Rattle.octahedron.specs.Square.{point}
use Rattle.octahedron.specs.Corrections.{restored_value, correction_of}

-- these values, and those that the corrections restore behind them
unfoldable pub restored_behind : (List Point → Point) → ℤ → List Point → List Point → List Point
restored_behind predicted c before [] = before
restored_behind predicted c before (d ∷ corrections) =
    restored_behind predicted c (before ++ restored_value c (predicted before) d ∷ []) corrections

-- the values that these corrections restore
abbrev pub restored_values : (List Point → Point) → ℤ → List Point → List Point
restored_values predicted c corrections = restored_behind predicted c [] corrections

-- the corrections of these values, behind the values before them
unfoldable pub corrections_behind : (List Point → Point) → ℤ → List Point → List Point → List Point
corrections_behind predicted c before [] = []
corrections_behind predicted c before (v ∷ values) = correction_of c (predicted before) v ∷ corrections_behind predicted c (before ++ v ∷ []) values

-- the corrections of these values
abbrev pub corrections_of : (List Point → Point) → ℤ → List Point → List Point
corrections_of predicted c values = corrections_behind predicted c [] values

-- the prediction by difference: the value before, and the first corner for the first value
abbrev pub value_before : List Point → Point
value_before [] = point (pos 0) (pos 0)
value_before (v ∷ []) = v
value_before (v ∷ w ∷ values) = value_before (w ∷ values)
