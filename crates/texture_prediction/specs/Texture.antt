-- Prediction of the third corner of a triangle, by a list of flags of which each is an orientation (Draco 1.5.5,
-- MeshPredictionSchemeTexCoordsPortablePredictor; what is lacking has names of this project).
use Rattle.std.specs.Prelude.{ℕ, Bool, ◌&&◌, if◌then◌else◌, List, [], ◌∷◌, length, take, reverse, ◌≡◌, ◌≤◌, Result, Ok, Err}
use Rattle.std.specs.Ordering.{int_eq}
use Rattle.wrapped_vectors.specs.declared.places.Place.{Place}
use Rattle.texture_prediction.specs.declared.pairs.Pair.{Pair}
use Rattle.texture_prediction.specs.declared.projections.Projected.{Projected}
use Rattle.texture_prediction.specs.declared.projections.Projected.TheVariants as projected
use Rattle.texture_prediction.specs.declared.projections.Candidates.{Candidates}
use Rattle.texture_prediction.specs.declared.faults.Lacking.{Lacking}
use Rattle.texture_prediction.specs.declared.faults.Lacking.TheVariants as lacking
use Rattle.texture_prediction.specs.Projection.{projection, picked}

-- whether two pairs are equal
abbrev pub same_pair : Pair → Pair → Bool
same_pair a b = int_eq a.u b.u && int_eq a.v b.v

-- a candidate: the first flag picks it
abbrev pub by_flag : Candidates → List Bool → Result (Pair × List Bool) Lacking
by_flag c [] = Err lacking.Flags
by_flag c (flag ∷ flags) = Ok (picked c flag, flags)

-- what a projection predicts beside the coordinates of the next corner
abbrev pub by_projection : Pair → List Bool → Projected → Result (Pair × List Bool) Lacking
by_projection a flags projected.Short = Ok (a, flags)
by_projection a flags projected.Great = Err lacking.Room
by_projection a flags (projected.At c) = by_flag c flags

-- a corner over the side from the next corner, of coordinates a, to the previous one, of coordinates b, with the flags that are left
unfoldable pub over_side : Place → Place → Place → Pair → Pair → List Bool → Result (Pair × List Bool) Lacking
over_side tip n p a b flags = if same_pair a b then Ok (a, flags) else by_projection a flags (projection tip n p a b)

-- the flags of a list that are left where so many are: they are taken from its back
abbrev pub left_of : List Bool → ℕ → List Bool
left_of flags left = reverse (take left flags)

-- a prediction, and in place of how many flags are left these flags
abbrev pub told : List Bool → Pair × ℕ → Pair × List Bool
told flags x = (x.0, left_of flags x.1)

-- what is due by the flags that are left is answered by how many are left
abbrev pub Tells : Result (Pair × List Bool) Lacking → List Bool → Result (Pair × ℕ) Lacking → Type 0
Tells due flags (Ok x) = (due ≡ Ok (told flags x)) × (x.1 ≤ length flags)
Tells due flags (Err e) = due ≡ Err e
