-- Pairs of texture coordinates, and the flat lists in which two numbers are a pair (this project's choice).
use Rattle.std.specs.Prelude.{ℕ, ℤ, pos, List, [], ◌∷◌, get_or}
use Rattle.texture_prediction.specs.declared.pairs.Pair.{Pair}
use Rattle.texture_prediction.specs.Projection.{pair}

-- the pair of entry e
abbrev pub pair_of : List Pair → ℕ → Pair
pair_of pairs e = get_or pairs e (pair (pos 0) (pos 0))

-- the pairs of a flat list
unfoldable pub pairs_of : List ℤ → List Pair
pairs_of [] = []
pairs_of (u ∷ []) = []
pairs_of (u ∷ v ∷ values) = pair u v ∷ pairs_of values

-- the flat list of pairs
unfoldable pub flat_of : List Pair → List ℤ
flat_of [] = []
flat_of (x ∷ pairs) = x.u ∷ x.v ∷ flat_of pairs
