-- Corrections of texture coordinates (Draco 1.5.5, MeshPredictionSchemeTexCoordsPortableEncoder; Draco Bitstream Specification 2.2,
-- section "Prediction Scheme Transforms").
use Rattle.std.specs.Prelude.{ℤ, Bool, List, [], reverse, Result}
use Rattle.drc_base.specs.declared.kinds.Kind.{Kind}
use Rattle.drc_base.specs.Steps.{◌>>=◌}
use Rattle.wrapped_vectors.specs.declared.places.Place.{Place}
use Rattle.texture_prediction.specs.declared.pairs.Pair.{Pair}
use Rattle.texture_prediction.specs.Projection.{pair}
use Rattle.corner_table.specs.Ordered.{Ordered}
use Rattle.predict.specs.Wrap.{Range, correction_of}
use Rattle.predict.specs.Stepping.{corrected_by}
use Rattle.texture_values.specs.Pairs.{pairs_of}
use Rattle.texture_values.specs.Foretold.{texture_step}
use Rattle.texture_values.specs.Restored.{flattened}

-- the correction of a pair at this prediction, component by component
abbrev pub correction_pair : Range → Pair → Pair → Pair
correction_pair r p x = pair (correction_of r p.u x.u) (correction_of r p.v x.v)

-- the corrections of values over a surface with these orientations, which are taken from the back of their list, or the first fault
unfoldable pub corrected_texture : Ordered → List Place → Range → List Bool → List ℤ → Result (List ℤ) Kind
corrected_texture w places r orientations values =
    corrected_by (texture_step w places) (correction_pair r) [] (reverse orientations) (pairs_of values) >>= flattened
