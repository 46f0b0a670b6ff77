-- Directions on the square: their points are in canonical spelling.
use Rattle.std.proofs.Common.{◌≡◌, ◌+◌, ℤ, pos, ◌+ℤ◌, ◌-ℤ◌, ◌<ℤ◌, ◌≤ℤ◌, neg_ℤ, unsigned_abs, sym, ◌∙◌, ap, refl, arith, if◌then◌else◌}
use Rattle.std.specs.Prelude.{int_lt}
use Rattle.std.proofs.lemmas.Int.{ints, by_lt_z}
use Rattle.octahedron.specs.declared.points.Point.{Point}
use Rattle.octahedron.specs.declared.points.Direction.{Direction}
use Rattle.octahedron.specs.Square.{point, IsIn, flip, canonical, IsCanonical}
use Rattle.octahedron.specs.Directions.{unfolded, octahedral, IsOnOctahedron}
use Rattle.octahedron.proofs.Flipping.{canonical-first, canonical-last, canonical-last', canonical-within, canonical-low, canonical-left, canonical-right, canonical-above, canonical-below, canonical-right_low, canonical-left_high, flip-first, flip-last, flip-last', flip-right, flip-left, point-same}

-- a point in the diamond is in its canonical spelling
diamond-canonical : (c : ℤ) (p : Point) → pos 0 <ℤ c → pos (unsigned_abs p.s + unsigned_abs p.t) ≤ℤ c → IsCanonical c p
unfolding canonical
diamond-canonical c p hc h = grind (arith, ints)

unfolded-front : (c : ℤ) (v : Direction) → pos 0 ≤ℤ v.x → unfolded c v ≡ point v.y v.z
unfolding unfolded
unfolded-front c v h = grind (arith, ints)

octahedral-front : (c : ℤ) (v : Direction) → pos 0 <ℤ c → IsOnOctahedron c v → pos 0 ≤ℤ v.x → octahedral c v ≡ point v.y v.z
octahedral-front c v hc on h = ap (canonical c) (unfolded-front c v h) ∙ diamond-canonical c (point v.y v.z) hc (omega (arith, ints))

-- behind: the four quarters
low : (c : ℤ) (v : Direction) → v.x <ℤ pos 0 → v.y <ℤ pos 0 → v.z <ℤ pos 0 → unfolded c v ≡ point (neg_ℤ v.z -ℤ c) (neg_ℤ v.y -ℤ c)
unfolding unfolded
low c v hx hy hz = grind (arith, ints)

left : (c : ℤ) (v : Direction) → v.x <ℤ pos 0 → v.y <ℤ pos 0 → pos 0 ≤ℤ v.z → unfolded c v ≡ point (v.z -ℤ c) (c +ℤ v.y)
unfolding unfolded
left c v hx hy hz = grind (arith, ints)

right : (c : ℤ) (v : Direction) → v.x <ℤ pos 0 → pos 0 ≤ℤ v.y → v.z <ℤ pos 0 → unfolded c v ≡ point (c +ℤ v.z) (v.y -ℤ c)
unfolding unfolded
right c v hx hy hz = grind (arith, ints)

high : (c : ℤ) (v : Direction) → v.x <ℤ pos 0 → pos 0 ≤ℤ v.y → pos 0 ≤ℤ v.z → unfolded c v ≡ point (c -ℤ v.z) (c -ℤ v.y)
unfolding unfolded
high c v hx hy hz = grind (arith, ints)

-- the sizes of y and z leave something for x
pub record IsNarrow (c y z : ℤ) : Type 0 where
  pub up_up : (y +ℤ z) <ℤ c
  pub up_down : (y -ℤ z) <ℤ c
  pub down_up : (z -ℤ y) <ℤ c
  pub down_down : (neg_ℤ y -ℤ z) <ℤ c

narrow : (c : ℤ) (v : Direction) → IsOnOctahedron c v → v.x <ℤ pos 0 → IsNarrow c v.y v.z
narrow c v on h = record { up_up = omega (arith, ints); up_down = omega (arith, ints); down_up = omega (arith, ints); down_down = omega (arith, ints) }

behind-low : (c : ℤ) (v : Direction) → pos 0 <ℤ c → IsNarrow c v.y v.z → v.x <ℤ pos 0 → v.y <ℤ pos 0 → v.z <ℤ pos 0 → octahedral c v ≡ flip c (point v.y v.z)
behind-low c v hc n hx hy hz =
    ap (canonical c) (low c v hx hy hz)
    ∙ canonical-last c (point (neg_ℤ v.z -ℤ c) (neg_ℤ v.y -ℤ c)) hc (omega (arith, ints)) (omega (arith, ints, n.down_down)) (omega (arith, ints, n.down_down))
    ∙ point-same (neg_ℤ v.z -ℤ c) (neg_ℤ c -ℤ v.z) (neg_ℤ v.y -ℤ c) (neg_ℤ c -ℤ v.y) (omega (arith, ints)) (omega (arith, ints))
    ∙ sym (flip-last c (point v.y v.z) (omega (arith, ints)) hz)

behind-high : (c : ℤ) (v : Direction) → pos 0 <ℤ c → IsNarrow c v.y v.z → v.x <ℤ pos 0 → pos 0 ≤ℤ v.y → pos 0 ≤ℤ v.z → octahedral c v ≡ flip c (point v.y v.z)
behind-high c v hc n hx hy hz =
    ap (canonical c) (high c v hx hy hz)
    ∙ canonical-first c (point (c -ℤ v.z) (c -ℤ v.y)) hc (omega (arith, ints)) (omega (arith, ints)) (omega (arith, ints, n.up_up)) (omega (arith, ints, n.up_up))
    ∙ sym (flip-first c (point v.y v.z) hy hz)

behind-left : (c : ℤ) (v : Direction) → pos 0 <ℤ c → IsNarrow c v.y v.z → v.x <ℤ pos 0 → v.y <ℤ pos 0 → pos 0 ≤ℤ v.z → octahedral c v ≡ flip c (point v.y v.z)
behind-left c v hc n hx hy hz =
    ap (canonical c) (left c v hx hy hz) ∙
    by_lt_z (pos 0) v.z
    (λ far. canonical-within c (point (v.z -ℤ c) (c +ℤ v.y)) (omega (arith, ints)) (omega (arith, ints, n.down_up)) (omega (arith, ints, n.down_up)) (omega (arith, ints))
    ∙ point-same (v.z -ℤ c) (v.z -ℤ c) (c +ℤ v.y) (v.y +ℤ c) refl (omega (arith, ints))
    ∙ sym (flip-left c (point v.y v.z) hy far))
    (λ near. canonical-left c (point (v.z -ℤ c) (c +ℤ v.y)) hc (omega (arith, ints)) (omega (arith, ints, n.down_up)) (omega (arith, ints))
    ∙ point-same (v.z -ℤ c) (neg_ℤ c -ℤ v.z) (neg_ℤ (c +ℤ v.y)) (neg_ℤ c -ℤ v.y) (omega (arith, ints)) (omega (arith, ints))
    ∙ sym (flip-last' c (point v.y v.z) hy near))

behind-right : (c : ℤ) (v : Direction) → pos 0 <ℤ c → IsNarrow c v.y v.z → v.x <ℤ pos 0 → pos 0 ≤ℤ v.y → v.z <ℤ pos 0 → octahedral c v ≡ flip c (point v.y v.z)
behind-right c v hc n hx hy hz =
    ap (canonical c) (right c v hx hy hz) ∙
    by_lt_z (pos 0) v.y
    (λ far. canonical-within c (point (c +ℤ v.z) (v.y -ℤ c)) (omega (arith, ints, n.up_down)) (omega (arith, ints)) (omega (arith, ints)) (omega (arith, ints, n.up_down))
    ∙ point-same (c +ℤ v.z) (v.z +ℤ c) (v.y -ℤ c) (v.y -ℤ c) (omega (arith, ints)) refl
    ∙ sym (flip-right c (point v.y v.z) far hz))
    (λ near. canonical-below c (point (c +ℤ v.z) (v.y -ℤ c)) hc (omega (arith, ints)) (omega (arith, ints, n.up_down)) (omega (arith, ints))
    ∙ point-same (neg_ℤ (c +ℤ v.z)) (neg_ℤ c -ℤ v.z) (v.y -ℤ c) (neg_ℤ c -ℤ v.y) (omega (arith, ints)) (omega (arith, ints))
    ∙ sym (flip-last c (point v.y v.z) near hz))

octahedral-behind : (c : ℤ) (v : Direction) → pos 0 <ℤ c → IsOnOctahedron c v → v.x <ℤ pos 0 → octahedral c v ≡ flip c (point v.y v.z)
octahedral-behind c v hc on hx =
    let n = narrow c v on hx in
    by_lt_z v.y (pos 0)
    (λ hy. by_lt_z v.z (pos 0) (λ hz. behind-low c v hc n hx hy hz) (λ hz. behind-left c v hc n hx hy hz))
    (λ hy. by_lt_z v.z (pos 0) (λ hz. behind-right c v hc n hx hy hz) (λ hz. behind-high c v hc n hx hy hz))

-- the point of a direction is that of its y and z, flipped where x is negative
pub octahedral-is : (c : ℤ) (v : Direction) → pos 0 <ℤ c → IsOnOctahedron c v → octahedral c v ≡ (if int_lt v.x (pos 0) then flip c (point v.y v.z) else point v.y v.z)
octahedral-is c v hc on =
    by_lt_z v.x (pos 0)
    (λ h. octahedral-behind c v hc on h ∙ grind (arith, ints))
    (λ h. octahedral-front c v hc on h ∙ grind (arith, ints))

-- ---- canonical spellings are kept, and lie in the square

-- what a canonical spelling is
record IsSpelling (c : ℤ) (q : Point) : Type 0 where
  pub inside : IsIn c q
  pub canonical : IsCanonical c q

spelling-as : (c : ℤ) (p q : Point) → canonical c p ≡ q → IsSpelling c q → IsSpelling c (canonical c p)
spelling-as c p q is h = rw is h

spelling-same : (c : ℤ) (p : Point) → canonical c p ≡ p → IsIn c p → IsSpelling c (canonical c p)
spelling-same c p is i = spelling-as c p p is (record { inside = i; canonical = is })

spelling-corner : (c : ℤ) → pos 0 <ℤ c → IsSpelling c (point c c)
spelling-corner c hc = record {
  inside = record { left = omega (arith, ints); right = omega (arith, ints); below = omega (arith, ints); above = omega (arith, ints) };
  canonical = canonical-first c (point c c) hc (omega (arith, ints)) (omega (arith, ints)) (omega (arith, ints)) (omega (arith, ints));
}

spelling-left : (c : ℤ) (p : Point) → pos 0 <ℤ c → IsIn c p → p.s <ℤ pos 0 → pos 0 <ℤ p.t → IsSpelling c (canonical c p)
spelling-left c p hc i hs ht =
    let l : neg_ℤ c ≤ℤ p.s = i.left in
    let a : p.t ≤ℤ c = i.above in
    by_lt_z (neg_ℤ c) p.s
    (λ inner. by_lt_z p.t c
    (λ far. spelling-same c p (canonical-within c p inner (omega (arith, ints)) (omega (arith, ints)) far) i)
    (λ high. spelling-as c p (point (neg_ℤ p.s) p.t) (canonical-above c p hc high inner hs) (record {
      inside = record { left = omega (arith, ints); right = omega (arith, ints); below = omega (arith, ints); above = a };
      canonical = canonical-first c (point (neg_ℤ p.s) p.t) hc (omega (arith, ints)) a (omega (arith, ints)) (omega (arith, ints));
    })))
    (λ end. by_lt_z p.t c
    (λ far. spelling-as c p (point p.s (neg_ℤ p.t)) (canonical-left c p hc end ht far) (record {
      inside = record { left = l; right = omega (arith, ints); below = omega (arith, ints); above = omega (arith, ints) };
      canonical = canonical-last' c (point p.s (neg_ℤ p.t)) hc (omega (arith, ints)) (omega (arith, ints)) (omega (arith, ints));
    }))
    (λ high. spelling-as c p (point c c) (canonical-left_high c p end high) (spelling-corner c hc)))

spelling-right : (c : ℤ) (p : Point) → pos 0 <ℤ c → IsIn c p → pos 0 <ℤ p.s → p.t <ℤ pos 0 → IsSpelling c (canonical c p)
spelling-right c p hc i hs ht =
    let r : p.s ≤ℤ c = i.right in
    let b : neg_ℤ c ≤ℤ p.t = i.below in
    by_lt_z p.s c
    (λ inner. by_lt_z (neg_ℤ c) p.t
    (λ far. spelling-same c p (canonical-within c p (omega (arith, ints)) inner far (omega (arith, ints))) i)
    (λ low. spelling-as c p (point (neg_ℤ p.s) p.t) (canonical-below c p hc low hs inner) (record {
      inside = record { left = omega (arith, ints); right = omega (arith, ints); below = b; above = omega (arith, ints) };
      canonical = canonical-last c (point (neg_ℤ p.s) p.t) hc (omega (arith, ints)) (omega (arith, ints)) (omega (arith, ints));
    })))
    (λ end. by_lt_z (neg_ℤ c) p.t
    (λ far. spelling-as c p (point p.s (neg_ℤ p.t)) (canonical-right c p hc end far ht) (record {
      inside = record { left = omega (arith, ints); right = r; below = omega (arith, ints); above = omega (arith, ints) };
      canonical = canonical-first c (point p.s (neg_ℤ p.t)) hc r (omega (arith, ints)) (omega (arith, ints)) (omega (arith, ints));
    }))
    (λ low. spelling-as c p (point c c) (canonical-right_low c p end low) (spelling-corner c hc)))

spelling-low : (c : ℤ) (p : Point) → pos 0 <ℤ c → IsIn c p → p.s ≤ℤ pos 0 → p.t ≤ℤ pos 0 → IsSpelling c (canonical c p)
spelling-low c p hc i hs ht =
    by_lt_z (neg_ℤ c) p.s
    (λ far. spelling-same c p (canonical-last c p hc far hs ht) i)
    (λ near. by_lt_z (neg_ℤ c) p.t
    (λ far. spelling-same c p (canonical-last' c p hc far hs ht) i)
    (λ low. spelling-as c p (point c c) (canonical-low c p near low) (spelling-corner c hc)))

spelling : (c : ℤ) (p : Point) → pos 0 <ℤ c → IsIn c p → IsSpelling c (canonical c p)
spelling c p hc i =
    by_lt_z p.s (pos 0)
    (λ left. by_lt_z (pos 0) p.t
    (λ high. spelling-left c p hc i left high)
    (λ low. spelling-low c p hc i (omega (arith, ints)) low))
    (λ right. by_lt_z p.t (pos 0)
    (λ low. by_lt_z (pos 0) p.s
    (λ far. spelling-right c p hc i far low)
    (λ near. spelling-low c p hc i near (omega (arith, ints))))
    (λ high. spelling-same c p (canonical-first c p hc i.right i.above right high) i))

pub canonical-twice : (c : ℤ) (p : Point) → pos 0 <ℤ c → IsIn c p → canonical c (canonical c p) ≡ canonical c p
canonical-twice c p hc i = (spelling c p hc i).canonical

pub canonical_is : (c : ℤ) (p q : Point) → pos 0 <ℤ c → IsIn c p → q ≡ canonical c p → IsCanonical c q
canonical_is c p q hc i is = rw is (canonical-twice c p hc i)

IsIn-unfolded : (c : ℤ) (v : Direction) → IsOnOctahedron c v → IsIn c (unfolded c v)
unfolding unfolded
IsIn-unfolded c v on = record { left = grind (arith, ints); right = grind (arith, ints); below = grind (arith, ints); above = grind (arith, ints) }

pub IsCanonical-octahedral : (c : ℤ) (v : Direction) → pos 0 <ℤ c → IsOnOctahedron c v → IsCanonical c (octahedral c v)
IsCanonical-octahedral c v hc on = canonical-twice c (unfolded c v) hc (IsIn-unfolded c v on)
