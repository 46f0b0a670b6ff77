-- What the two steps predict.
use Rattle.std.proofs.Common.{◌≡◌, ℕ, ℤ, List, [], ◌∷◌, ◌++◌, length, Bool, Result, Ok, ap, refl, arith}
use Rattle.std.proofs.lemmas.List.FromFn.{fill_by_all}
use Rattle.drc_base.specs.Steps.{◌>>=◌}
use Rattle.drc_base.specs.declared.kinds.Kind.{Kind}
use Rattle.wrapped_vectors.specs.Vectors.{reduced}
use Rattle.wrapped_vectors.specs.declared.places.Place.{Place}
use Rattle.wrapped_vectors.specs.declared.vectors.Vector.{Vector}
use Rattle.octahedron.specs.declared.points.Point.{Point}
use Rattle.octahedron.specs.Corrections.{restored_value, correction_of}
use Rattle.octahedron.specs.Restored.{restored_behind, corrections_behind, value_before}
use Rattle.normal_prediction.specs.NormalSums.{AreSums, fan_sum, no_vector}
use Rattle.predict.specs.Stepping.{restored_by, corrected_by, in_front}
use Rattle.octahedral_values.specs.Steps.{difference, normals_round}

abbrev pub given : List Point → Result (List Point) Kind
given ps = Ok ps

-- the difference restores and corrects by the function that it is the step of
pub restored-difference : (c : ℤ) (flips : List Bool) (before ds : List Point)
    → restored_by difference (restored_value c) before flips ds ≡ Ok (restored_behind value_before c before ds)
unfolding restored_by restored_behind
restored-difference c flips before [] = refl
restored-difference c flips before (d ∷ ds) = restored-difference c flips (before ++ restored_value c (value_before before) d ∷ []) ds

pub corrected-difference : (c : ℤ) (flips : List Bool) (before vs : List Point)
    → corrected_by difference (correction_of c) before flips vs ≡ Ok (corrections_behind value_before c before vs)
unfolding corrected_by corrections_behind
corrected-difference c flips before [] = refl
corrected-difference c flips before (v ∷ vs) =
    ap (λ (r : Result (List Point) Kind). r >>= in_front (correction_of c (value_before before) v)) (corrected-difference c flips (before ++ v ∷ []) vs)

-- the sums of all entries as a list
pub sums-round : (entries : List ℕ) (places : List Place) (sums : List Vector) → length sums ≡ length places → AreSums entries places sums (length entries)
    → sums ≡ normals_round entries places
unfolding normals_round
sums-round entries places sums same so =
    fill_by_all (λ e. reduced (fan_sum entries places e (length entries))) sums (length places) no_vector same (λ k below. so k (omega (arith, same, below)))
