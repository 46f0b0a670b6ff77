-- Limits of the caller for what is decoded (this project's choice).
use Rattle.std.specs.Prelude.{ℕ, ◌==◌, ◌&&◌, ◌||◌, Bool, List, [], ◌∷◌, length, nat_le, Option, Result}
use Rattle.drc_base.specs.declared.faults.Fault.{Fault}
use Rattle.drc_base.specs.declared.kinds.Kind.TheVariants.{FaceLimit, PointLimit, ValueLimit}
use Rattle.drc_base.specs.Profile.{Profile}
use Rattle.drc_base.specs.Steps.{◌>>=◌}
use Rattle.attr_heads.specs.FirstFault.{unless, first_fault, value_unless}
use Rattle.mesh_model.specs.declared.geometries.Geometry.{Geometry}
use Rattle.mesh_model.specs.Contents.{faces_in, points_in}
use Rattle.stream_counts.specs.declared.counts.DeclaredCounts.{DeclaredCounts}
use Rattle.stream_counts.specs.Counts.{counts_declared_in}
use Rattle.drc_container.specs.reading.Stream.{meaning_in}
use Rattle.drc_c.specs.declared.limits.DrcLimits.{DrcLimits}
use Rattle.drc_c.specs.Profiles.{is_profile}
use Rattle.drc_c.specs.Shapes.{integers_of}

-- whether a number is within a limit, of which 0 is none
abbrev pub is_within : ℕ → ℕ → Bool
is_within limit count = limit == 0 || nat_le count limit

-- the first number beyond its limit: of faces, of points, of values
abbrev pub limits_fault : DrcLimits → ℕ → ℕ → ℕ → Option Fault
limits_fault l faces points values = first_fault (
    unless (is_within l.faces faces) FaceLimit faces
    ∷ unless (is_within l.points points) PointLimit points
    ∷ unless (is_within l.values values) ValueLimit values
    ∷ [])

-- the first number of what is declared that is beyond its limit; of values nothing is declared
abbrev pub declared_fault : DrcLimits → DeclaredCounts → Option Fault
declared_fault l n = limits_fault l n.faces n.points 0

-- the first number of a geometry that is beyond its limit
abbrev pub geometry_fault : DrcLimits → Geometry → Option Fault
geometry_fault l g = limits_fault l (length (faces_in g)) (length (points_in g)) (length (integers_of g))

-- what a stream declares in a profile, or its first fault, or the first declared number that is beyond its limit
unfoldable pub declared_within : Profile → DrcLimits → List ℕ → Result DeclaredCounts Fault
declared_within p l bytes = counts_declared_in p bytes >>= λ n. value_unless (declared_fault l n) n

-- the geometry that a stream means in a profile, within limits; or the first of these: the first fault of what it declares, the first
-- declared number that is beyond its limit, the first fault of the stream, the first number of the geometry that is beyond its limit
unfoldable pub meaning_within : Profile → DrcLimits → List ℕ → Result Geometry Fault
meaning_within p l bytes =
    declared_within p l bytes >>= λ _. meaning_in p bytes >>= λ g. value_unless (geometry_fault l g) g

-- whether a number is a profile, and what is spare in limits is 0
abbrev pub are_limits : ℕ → DrcLimits → Bool
are_limits profile l = is_profile profile && l.spare == 0
