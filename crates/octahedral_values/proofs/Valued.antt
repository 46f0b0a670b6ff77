-- The values that normals predict lie in the square.
use Rattle.std.proofs.Common.{◌<ℤ◌, ℤ, pos, Bool, true, false, inl, inr, sym, subst, refl, arith, if◌then◌else◌}
use Rattle.std.specs.Prelude.{int_lt}
use Rattle.std.proofs.lemmas.Int.{ints}
use Rattle.std.proofs.lemmas.Bool.{cases_eq}
use Rattle.wrapped_vectors.specs.declared.vectors.Vector.{Vector}
use Rattle.octahedron.specs.declared.points.Direction.{Direction}
use Rattle.octahedron.specs.declared.points.Point.{Point}
use Rattle.octahedron.specs.Square.{IsIn, IsValue, point, flip}
use Rattle.octahedron.specs.Directions.{IsOnOctahedron, octahedral, octahedral_value}
use Rattle.octahedron.proofs.Flipping.{IsIn-flip}
use Rattle.octahedron.proofs.Spelling.{octahedral-is}
use Rattle.octahedron.proofs.Centring.{IsValue-value_at}
use Rattle.normal_prediction.specs.Directions.{abs_sum, shrunk, scaled, direction, direction_at, opposite}
use Rattle.normal_prediction.proofs.Scaling.{scaled-on, long-is, flat-is, IsOnOctahedron-opposite}
use Rattle.octahedral_values.specs.Steps.{directed_value, normal_value}

-- the direction of the zero vector, and that of any sum
on-x : (c : ℤ) → pos 0 <ℤ c → IsOnOctahedron c (direction_at c (pos 0) (pos 0))
on-x c hc = grind (arith, ints)

IsOn-direction : (c : ℤ) (sum : Vector) → pos 0 <ℤ c → IsOnOctahedron c (direction c sum)
IsOn-direction c sum hc = elim (cases_eq (abs_sum (shrunk sum)) 0) [
  | inl none ↦ subst (λ (v : Direction). IsOnOctahedron c v) (flat-is c sum (shrunk sum) (abs_sum (shrunk sum)) (direction_at c (pos 0) (pos 0)) refl refl none refl) (on-x c hc)
  | inr some ↦ subst (λ (v : Direction). IsOnOctahedron c v) (long-is c sum (shrunk sum) (abs_sum (shrunk sum)) (scaled c (shrunk sum) (abs_sum (shrunk sum))) refl refl some refl)
      (scaled-on c (shrunk sum) (abs_sum (shrunk sum)) hc (omega (arith, some)) refl)
]

-- a direction's point, and its value
IsIn-front : (c : ℤ) (v : Direction) → pos 0 <ℤ c → IsOnOctahedron c v → IsIn c (point v.y v.z)
IsIn-front c v hc on = record { left = grind (arith, ints); right = grind (arith, ints); below = grind (arith, ints); above = grind (arith, ints) }

IsIn-flipped : (c : ℤ) (p : Point) (b : Bool) → IsIn c p → IsIn c (if b then flip c p else p)
IsIn-flipped c p true i = IsIn-flip c p i
IsIn-flipped c p false i = i

IsIn-octahedral : (c : ℤ) (v : Direction) → pos 0 <ℤ c → IsOnOctahedron c v → IsIn c (octahedral c v)
IsIn-octahedral c v hc on =
    subst (λ (p : Point). IsIn c p) (sym (octahedral-is c v hc on)) (IsIn-flipped c (point v.y v.z) (int_lt v.x (pos 0)) (IsIn-front c v hc on))

IsValue-octahedral : (c : ℤ) (v : Direction) → pos 0 <ℤ c → IsOnOctahedron c v → IsValue c (octahedral_value c v)
IsValue-octahedral c v hc on = IsValue-value_at c (octahedral c v) (octahedral_value c v) (IsIn-octahedral c v hc on) refl

IsValue-directed : (c : ℤ) (v : Direction) (flip : Bool) → pos 0 <ℤ c → IsOnOctahedron c v → IsValue c (directed_value c v flip)
IsValue-directed c v true hc on = IsValue-octahedral c (opposite v) hc (IsOnOctahedron-opposite c v on)
IsValue-directed c v false hc on = IsValue-octahedral c v hc on

pub IsValue-normal : (c : ℤ) (sum : Vector) (flip : Bool) → pos 0 <ℤ c → IsValue c (normal_value c sum flip)
unfolding normal_value
IsValue-normal c sum flip hc = IsValue-directed c (direction c sum) flip hc (IsOn-direction c sum hc)
