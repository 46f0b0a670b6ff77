-- Texture coordinates from corrections (Draco 1.5.5, MeshPredictionSchemeTexCoordsPortableDecoder; Draco Bitstream Specification 2.2,
-- section "Prediction Scheme Transforms").
use Rattle.std.specs.Prelude.{ℤ, Bool, List, [], reverse, Result, Ok}
use Rattle.drc_base.specs.declared.kinds.Kind.{Kind}
use Rattle.drc_base.specs.Steps.{◌>>=◌}
use Rattle.wrapped_vectors.specs.declared.places.Place.{Place}
use Rattle.texture_prediction.specs.declared.pairs.Pair.{Pair}
use Rattle.texture_prediction.specs.Projection.{pair}
use Rattle.corner_table.specs.Ordered.{Ordered}
use Rattle.predict.specs.Wrap.{Range, restored_value}
use Rattle.predict.specs.Stepping.{restored_by}
use Rattle.texture_values.specs.Pairs.{pairs_of, flat_of}
use Rattle.texture_values.specs.Foretold.{texture_step}

-- the pair at this prediction and correction, each component wrapped into the range
abbrev pub restored_pair : Range → Pair → Pair → Pair
restored_pair r p c = pair (restored_value r p.u c.u) (restored_value r p.v c.v)

-- the flat list of pairs that were restored
abbrev pub flattened : List Pair → Result (List ℤ) Kind
flattened pairs = Ok (flat_of pairs)

-- the values that corrections restore over a surface with the places of its entries, or the first fault: orientations are taken from the
-- back of their list
unfoldable pub restored_texture : Ordered → List Place → Range → List Bool → List ℤ → Result (List ℤ) Kind
restored_texture w places r orientations corrections =
    restored_by (texture_step w places) (restored_pair r) [] (reverse orientations) (pairs_of corrections) >>= flattened
