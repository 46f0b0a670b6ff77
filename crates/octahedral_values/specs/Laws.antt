-- What holds of every step that predicts octahedral values.
use Rattle.std.specs.Prelude.{◌≡◌, ◌%◌, ◌<ℤ◌, ℤ, pos, Bool, List, length, All, Ok}
use Rattle.drc_base.specs.declared.kinds.Kind.{Kind}
use Rattle.wrapped_vectors.specs.declared.vectors.Vector.{Vector}
use Rattle.octahedron.specs.declared.points.Point.{Point}
use Rattle.octahedron.specs.Square.{IsValue}
use Rattle.octahedron.specs.Pairs.{AreValues, AreCanonical}
use Rattle.predict.specs.Stepping.{Step}
use Rattle.octahedral_values.specs.Steps.{difference, geometric_normal, restored_integers, corrected_integers}

-- a step whose predictions are values of the square behind values of the square
abbrev pub PredictsIn : ℤ → Step Point (List Bool) Kind → Type 0
PredictsIn c step = (before : List Point) (flips : List Bool) (x : Point × List Bool) → All (IsValue c) before
    → step before flips ≡ Ok x → IsValue c x.0

-- both steps are such steps
abbrev pub DifferencePredicts : Type 0
DifferencePredicts = (c : ℤ) → pos 0 <ℤ c → PredictsIn c difference

abbrev pub NormalsPredict : Type 0
NormalsPredict = (c : ℤ) (sums : List Vector) → pos 0 <ℤ c → PredictsIn c (geometric_normal c sums)

-- by such a step, corrections of values in canonical spelling restore these with the same flips
abbrev pub CorrectionsRestore : Type 0
CorrectionsRestore = (step : Step Point (List Bool) Kind) (c : ℤ) (flips : List Bool) (values corrections : List ℤ) → pos 0 <ℤ c
    → PredictsIn c step → length values % 2 ≡ 0 → AreValues c values → AreCanonical c values → corrected_integers step c flips values ≡ Ok corrections
    → restored_integers step c flips corrections ≡ Ok values

-- by any step as many integers are restored as there are corrections
abbrev pub RestoredAreAsMany : Type 0
RestoredAreAsMany = (step : Step Point (List Bool) Kind) (c : ℤ) (flips : List Bool) (corrections values : List ℤ)
    → length corrections % 2 ≡ 0 → restored_integers step c flips corrections ≡ Ok values → length values ≡ length corrections
