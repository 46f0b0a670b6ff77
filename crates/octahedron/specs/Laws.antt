-- What holds of the square and of every prediction in it.
use Rattle.std.specs.Prelude.{◌≡◌, ◌<ℤ◌, ℤ, pos, List, All}
use Rattle.octahedron.specs.declared.points.Point.{Point}
use Rattle.octahedron.specs.Square.{IsIn, IsValue, IsCanonicalValue, flip, canonical}
use Rattle.octahedron.specs.Restored.{restored_values, corrections_of, value_before}

-- everywhere in the square, two flips give the canonical spelling
abbrev pub FlippedTwiceIsCanonical : Type 0
FlippedTwiceIsCanonical = (c : ℤ) (p : Point) → pos 0 <ℤ c → IsIn c p → flip c (flip c p) ≡ canonical c p

-- which stays as it is, in the square
abbrev pub CanonicalStays : Type 0
CanonicalStays = (c : ℤ) (p : Point) → pos 0 <ℤ c → IsIn c p → canonical c (canonical c p) ≡ canonical c p

-- a prediction that is a value of the square behind values of the square
abbrev pub PredictsIn : ℤ → (List Point → Point) → Type 0
PredictsIn c predicted = (before : List Point) → All (IsValue c) before → IsValue c (predicted before)

-- whatever function of the values before predicts, corrections restore values in canonical spelling
abbrev pub CorrectionsRestore : Type 0
CorrectionsRestore = (predicted : List Point → Point) (c : ℤ) (values : List Point) → pos 0 <ℤ c → PredictsIn c predicted
    → All (IsValue c) values → All (IsCanonicalValue c) values → restored_values predicted c (corrections_of predicted c values) ≡ values

-- the difference is such a prediction in every square
abbrev pub DifferencePredicts : Type 0
DifferencePredicts = (c : ℤ) → pos 0 <ℤ c → PredictsIn c value_before
