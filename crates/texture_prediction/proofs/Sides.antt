-- One entry over a side.
use Rattle.std.proofs.Common.{◌≡◌, Bool, true, false, List, Ok, ap, refl}
use Rattle.wrapped_vectors.specs.declared.places.Place.{Place}
use Rattle.texture_prediction.specs.declared.pairs.Pair.{Pair}
use Rattle.texture_prediction.specs.declared.projections.Projected.{Projected}
use Rattle.texture_prediction.specs.Projection.{projection}
use Rattle.texture_prediction.specs.Texture.{same_pair, over_side, by_projection}

pub over-same : (tip n p : Place) (a b : Pair) (flags : List Bool) → same_pair a b ≡ true → over_side tip n p a b flags ≡ Ok (a, flags)
unfolding over_side
over-same tip n p a b flags is = rw is refl

pub over-by : (tip n p : Place) (a b : Pair) (flags : List Bool) (x : Projected) → same_pair a b ≡ false → projection tip n p a b ≡ x
    → over_side tip n p a b flags ≡ by_projection a flags x
unfolding over_side
over-by tip n p a b flags x is px = rw is (ap (by_projection a flags) px)
