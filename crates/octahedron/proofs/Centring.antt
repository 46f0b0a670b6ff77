-- Values and points: one is the other, moved by the centre.
use Rattle.std.proofs.Common.{◌≡◌, ℤ, pos, ◌+ℤ◌, ◌-ℤ◌, ◌<ℤ◌, sym, ap, subst, arith, if◌then◌else◌}
use Rattle.std.proofs.lemmas.Int.{ints}
use Rattle.std.specs.Prelude.{int_lt}
use Rattle.octahedron.specs.declared.points.Point.{Point}
use Rattle.octahedron.specs.declared.points.Direction.{Direction}
use Rattle.octahedron.specs.Square.{point, IsIn, IsValue, flip, centred, value_at, IsCanonical, IsCanonicalValue}
use Rattle.octahedron.specs.Directions.{IsOnOctahedron, octahedral, octahedral_value}
use Rattle.octahedron.proofs.Flipping.{point-same}
use Rattle.octahedron.proofs.Spelling.{octahedral-is, IsCanonical-octahedral}

pub IsIn-centred : (c : ℤ) (v q : Point) → IsValue c v → q ≡ centred c v → IsIn c q
IsIn-centred c v q h is =
    rw is (record { left = omega (arith, ints, h.s_least); right = omega (arith, ints, h.s_greatest); below = omega (arith, ints, h.t_least); above = omega (arith, ints, h.t_greatest) })

pub IsValue-value_at : (c : ℤ) (p q : Point) → IsIn c p → q ≡ value_at c p → IsValue c q
IsValue-value_at c p q h is =
    rw is (record { s_least = omega (arith, ints, h.left); s_greatest = omega (arith, ints, h.right); t_least = omega (arith, ints, h.below); t_greatest = omega (arith, ints, h.above) })

-- the code's way to the value of a direction
pub octahedral_value-is : (c : ℤ) (v : Direction) (p q r : Point) → pos 0 <ℤ c → IsOnOctahedron c v → p ≡ point v.y v.z → q ≡ (if int_lt v.x (pos 0) then flip c p else p)
    → r ≡ value_at c q → r ≡ octahedral_value c v
octahedral_value-is c v p q r hc on ep eq er = rw (er, eq, ep) (ap (value_at c) (sym (octahedral-is c v hc on)))

centred-value : (c : ℤ) (p : Point) → centred c (value_at c p) ≡ p
centred-value c p = point-same ((p.s +ℤ c) -ℤ c) p.s ((p.t +ℤ c) -ℤ c) p.t (omega (arith, ints)) (omega (arith, ints))

-- it is in canonical spelling
pub octahedral_value-canonical : (c : ℤ) (v : Direction) (r : Point) → pos 0 <ℤ c → IsOnOctahedron c v → r ≡ octahedral_value c v → IsCanonicalValue c r
octahedral_value-canonical c v r hc on is =
    rw is (subst (λ (p : Point). IsCanonical c p) (sym (centred-value c (octahedral c v))) (IsCanonical-octahedral c v hc on))
