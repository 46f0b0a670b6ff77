-- The orientations that are written with texture coordinates over a surface (Draco 1.5.5,
-- MeshPredictionSchemeTexCoordsPortablePredictor; that sums and products wrap at 64 bits is this project's choice).
use Rattle.std.specs.Prelude.{ℕ, nat_lt, ◌&&◌, ℤ, ◌+ℤ◌, ◌-ℤ◌, ◌*ℤ◌, int_div, int_lt, Bool, true, false, if◌then◌else◌}
use Rattle.std.specs.Prelude.{Option, Some, None, List, [], ◌∷◌, ◌++◌, length, Result, Ok, Err}
use Rattle.std.specs.Option.{option_to_list}
use Rattle.drc_base.specs.declared.kinds.Kind.{Kind}
use Rattle.drc_base.specs.declared.kinds.Kind.TheVariants as kind
use Rattle.drc_base.specs.Steps.{◌>>=◌}
use Rattle.wrapped_vectors.specs.Wrapped.{signed}
use Rattle.wrapped_vectors.specs.declared.places.Place.{Place}
use Rattle.texture_prediction.specs.declared.pairs.Pair.{Pair}
use Rattle.texture_prediction.specs.declared.projections.Candidates.{Candidates}
use Rattle.texture_prediction.specs.declared.projections.Projected.{Projected}
use Rattle.texture_prediction.specs.declared.projections.Projected.TheVariants as projected
use Rattle.texture_prediction.specs.Projection.{projection, picked}
use Rattle.texture_prediction.specs.Texture.{same_pair}
use Rattle.corner_table.specs.Sides.{next, prev}
use Rattle.corner_table.specs.Ordered.{Ordered, corner_at, corner_entry}
use Rattle.texture_values.specs.Pairs.{pair_of, pairs_of}
use Rattle.texture_values.specs.Foretold.{place_of, without_side}

-- a coordinate of one of the candidates, before it is taken to 32 bits
abbrev pub whole_candidate : ℤ → ℤ → ℤ → Bool → ℤ
whole_candidate along across square plus = int_div (signed (if plus then along +ℤ across else along -ℤ across)) square

-- the sum of two squares, to 64 bits
abbrev pub squares : ℤ → ℤ → ℤ
squares a b = signed (a *ℤ a +ℤ b *ℤ b)

-- how far a pair is off the candidate of an orientation: the square of the distance, to 64 bits
unfoldable pub off_by : Candidates → Pair → Bool → ℤ
off_by c x plus =
    squares (x.u -ℤ whole_candidate c.along_u c.across_u c.square plus) (x.v -ℤ whole_candidate c.along_v c.across_v c.square plus)

-- the orientation that is written for a pair: it is set where that candidate is nearer
abbrev pub nearer : Candidates → Pair → Bool
nearer c x = int_lt (off_by c x true) (off_by c x false)

-- what is foretold by a projection beside the pair a of the next corner, and the orientation that pair x takes, where it takes one
abbrev pub choice_by : Pair → Pair → Projected → Result (Pair × Option Bool) Kind
choice_by a x projected.Short = Ok (a, None)
choice_by a x projected.Great = Err kind.Projection
choice_by a x (projected.At c) = Ok (picked c (nearer c x), Some (nearer c x))

-- the same over a side from the next corner, of pair a, to the previous one, of pair b
unfoldable pub choice_over : Place → Place → Place → Pair → Pair → Pair → Result (Pair × Option Bool) Kind
choice_over tip n p a b x = if same_pair a b then Ok (a, None) else choice_by a x (projection tip n p a b)

-- the same of entry e, where the entries of the next and the previous corner are n and p
unfoldable pub choice_from : List Place → ℕ → ℕ → ℕ → List Pair → Pair → Result (Pair × Option Bool) Kind
choice_from places e n p before x =
    if nat_lt n e && nat_lt p e
    then choice_over (place_of places e) (place_of places n) (place_of places p) (pair_of before n) (pair_of before p) x
    else Ok (without_side e n before, None)

-- what is foretold of a pair over a surface from the pairs before, and the orientation that it takes
unfoldable pub texture_choice : Ordered → List Place → List Pair → Pair → Result (Pair × Option Bool) Kind
texture_choice w places before x =
    let c = corner_at w (length before) in
    choice_from places (length before) (corner_entry w (next c)) (corner_entry w (prev c)) before x

-- orientations in front of others
abbrev pub ahead : List Bool → List Bool → Result (List Bool) Kind
ahead orientations others = Ok (orientations ++ others)

-- the orientations that pairs take behind those before them
unfoldable pub chosen_behind : Ordered → List Place → List Pair → List Pair → Result (List Bool) Kind
chosen_behind w places before [] = Ok []
chosen_behind w places before (x ∷ pairs) =
    texture_choice w places before x >>= λ c. chosen_behind w places (before ++ x ∷ []) pairs >>= ahead (option_to_list c.1)

-- the orientations that texture coordinates take over a surface with the places of its entries, entry by entry, or the first fault
unfoldable pub chosen_texture : Ordered → List Place → List ℤ → Result (List Bool) Kind
chosen_texture w places values = chosen_behind w places [] (pairs_of values)
