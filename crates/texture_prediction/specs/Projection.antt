-- Texture coordinates of a third corner, from those of a side and the places of all three (Draco 1.5.5,
-- MeshPredictionSchemeTexCoordsPortablePredictor; that sums and products wrap at 64 bits is this project's choice).
use Rattle.std.specs.Prelude.{ℕ, ◌-◌, ◌/◌, ◌^◌, max, ℤ, pos, ◌+ℤ◌, ◌-ℤ◌, ◌*ℤ◌, neg_ℤ, int_div, int_lt, unsigned_abs, nat_lt, nat_eq, Bool, ◌||◌, if◌then◌else◌, ◌≢◌, ⊤}
use Rattle.std.specs.Int.{w32, int_wrap}
use Rattle.wrapped_vectors.specs.Wrapped.{signed, unsigned}
use Rattle.wrapped_vectors.specs.Roots.{root}
use Rattle.wrapped_vectors.specs.Vectors.{vector, dot, squared, apart}
use Rattle.wrapped_vectors.specs.declared.vectors.Vector.{Vector}
use Rattle.wrapped_vectors.specs.declared.places.Place.{Place}
use Rattle.texture_prediction.specs.declared.pairs.Pair.{Pair}
use Rattle.texture_prediction.specs.declared.projections.Candidates.{Candidates}
use Rattle.texture_prediction.specs.declared.projections.Projected.{Projected}
use Rattle.texture_prediction.specs.declared.projections.Projected.TheVariants as projected

-- the pair of these coordinates
abbrev pub pair : ℤ → ℤ → Pair
pair u v = record { u = u; v = v }

-- the greatest size of a component
abbrev pub greatest : Vector → ℕ
greatest d = max (unsigned_abs d.x) (max (unsigned_abs d.y) (unsigned_abs d.z))

-- whether coordinates are too great beside a side whose length has this square
abbrev pub is_wide : Pair → ℕ → Bool
is_wide a square = nat_lt ((2 ^ 63 - 1) / square) (max (unsigned_abs a.u) (unsigned_abs a.v))

-- whether a foot lies too far along a side
abbrev pub is_far : Vector → ℤ → Bool
is_far d along = int_lt (pos ((2 ^ 63 - 1) / greatest d)) along

-- the foot of a corner on the side d from n: a component
abbrev pub foot_at : ℤ → ℤ → ℤ → ℤ → ℤ
foot_at n along d square = n +ℤ int_div (signed (along *ℤ d)) square

-- the vector from its foot to a corner
abbrev pub from_foot : Place → Place → Vector → ℤ → ℤ → Vector
from_foot tip n d along square = vector
    (tip.x -ℤ foot_at n.x along d.x square) (tip.y -ℤ foot_at n.y along d.y square) (tip.z -ℤ foot_at n.z along d.z square)

-- how far a coordinate comes along a side, times the square of its length
abbrev pub along_at : ℤ → ℤ → ℤ → ℤ → ℤ
along_at a b along square = signed (a *ℤ square +ℤ along *ℤ (b -ℤ a))

-- the height of a corner over a side, times the length of the side
abbrev pub height : Vector → ℕ → ℕ
height f square = root (unsigned (pos (squared f) *ℤ pos square))

-- both candidates: along the side as far as the foot, and across it to one side or to the other
unfoldable pub candidates : Place → Place → Vector → ℤ → ℕ → Pair → Pair → Candidates
candidates tip n d along square a b =
    let h = height (from_foot tip n d along (signed (pos square))) square in
    record {
      along_u = along_at a.u b.u along (pos square);
      along_v = along_at a.v b.v along (pos square);
      across_u = signed ((b.v -ℤ a.v) *ℤ pos h);
      across_v = signed ((a.u -ℤ b.u) *ℤ pos h);
      square = signed (pos square);
    }

-- what is known of a corner over a side d of this square
unfoldable pub known : Place → Place → Vector → ℤ → ℕ → Pair → Pair → Projected
known tip n d along square a b =
    if nat_eq square 0 then projected.Short
    else if is_wide a square || is_far d along then projected.Great
    else projected.At (candidates tip n d along square a b)

-- what is known of a corner, from the next and the previous one
abbrev pub projection : Place → Place → Place → Pair → Pair → Projected
projection tip n p a b = known tip n (apart p n) (signed (dot (apart p n) (apart tip n))) (squared (apart p n)) a b

-- what candidates are divided by is neither 0 nor -1, so that no quotient leaves 64 bits
abbrev pub Divides : Projected → Type 0
Divides projected.Short = ⊤
Divides projected.Great = ⊤
Divides (projected.At c) = (c.square ≢ pos 0) × (c.square ≢ neg_ℤ (pos 1))

-- a coordinate of one of the candidates, to 32 bits
abbrev pub candidate : ℤ → ℤ → ℤ → Bool → ℤ
candidate along across square plus = int_wrap w32 (int_div (signed (if plus then along +ℤ across else along -ℤ across)) square)

-- the candidate of an orientation
abbrev pub picked : Candidates → Bool → Pair
picked c plus = pair (candidate c.along_u c.across_u c.square plus) (candidate c.along_v c.across_v c.square plus)
