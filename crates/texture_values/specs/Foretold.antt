-- What texture coordinates are foretold to be over a surface (Draco 1.5.5, MeshPredictionSchemeTexCoordsPortablePredictor; that two
-- predictions are faults, and their names, is this project's choice).
use Rattle.std.specs.Prelude.{◌≡◌, ℕ, ◌-◌, ◌≤◌, nat_lt, ◌&&◌, Bool, if◌then◌else◌, pos, List, length, get_or, Result, Ok, Err}
use Rattle.drc_base.specs.declared.kinds.Kind.{Kind}
use Rattle.drc_base.specs.declared.kinds.Kind.TheVariants as kind
use Rattle.wrapped_vectors.specs.declared.places.Place.{Place}
use Rattle.texture_prediction.specs.declared.pairs.Pair.{Pair}
use Rattle.texture_prediction.specs.declared.faults.Lacking.{Lacking}
use Rattle.texture_prediction.specs.declared.faults.Lacking.TheVariants as lacking
use Rattle.texture_prediction.specs.Projection.{pair}
use Rattle.texture_prediction.specs.Texture.{over_side, told}
use Rattle.corner_table.specs.Sides.{next, prev}
use Rattle.corner_table.specs.Ordered.{Ordered, corner_at, corner_entry}
use Rattle.predict.specs.Stepping.{Step}
use Rattle.texture_values.specs.Pairs.{pair_of}

-- the place of entry e
abbrev pub place_of : List Place → ℕ → Place
place_of places e = get_or places e (record { x = pos 0; y = pos 0; z = pos 0 })

-- the fault of what is lacking
abbrev pub kind_of : Lacking → Kind
kind_of lacking.Room = kind.Projection
kind_of lacking.Flags = kind.FlagsShort

-- an answer, with its fault
abbrev pub or_kind : {A : Type 0} → Result A Lacking → Result A Kind
or_kind (Ok x) = Ok x
or_kind (Err e) = Err (kind_of e)

-- entry e over the side from entry n, that of the next corner in its face, to entry p, that of the previous one
abbrev pub over_entries : List Place → ℕ → ℕ → ℕ → List Pair → List Bool → Result (Pair × List Bool) Kind
over_entries places e n p before orientations =
    or_kind (over_side (place_of places e) (place_of places n) (place_of places p) (pair_of before n) (pair_of before p) orientations)

-- entry e without that side: as entry n where it comes before, else as the entry before, and zeros for the first one
abbrev pub without_side : ℕ → ℕ → List Pair → Pair
without_side e n before =
    if nat_lt n e then pair_of before n else if nat_lt 0 e then pair_of before (e - 1) else pair (pos 0) (pos 0)

-- entry e, where the entries of the next and the previous corner are n and p
unfoldable pub from_entries : List Place → ℕ → ℕ → ℕ → List Pair → List Bool → Result (Pair × List Bool) Kind
from_entries places e n p before orientations =
    if nat_lt n e && nat_lt p e then over_entries places e n p before orientations else Ok (without_side e n before, orientations)

-- the step of the prediction over a surface, with the places of its entries: from the pairs before and the orientations that are left
unfoldable pub texture_step : Ordered → List Place → Step Pair (List Bool) Kind
texture_step w places before orientations =
    let c = corner_at w (length before) in
    from_entries places (length before) (corner_entry w (next c)) (corner_entry w (prev c)) before orientations

-- what is due by the orientations that are left is answered by how many are left. This is the code's own word
abbrev pub Foretells : Result (Pair × List Bool) Kind → List Bool → Result (Pair × ℕ) Kind → Type 0
Foretells due orientations (Ok x) = (due ≡ Ok (told orientations x)) × (x.1 ≤ length orientations)
Foretells due orientations (Err k) = due ≡ Err k
