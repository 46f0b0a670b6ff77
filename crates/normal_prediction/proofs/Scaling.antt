-- Sums of normals as directions.
use Rattle.std.proofs.Common.{◌≡◌, ℕ, zero, suc, ◌+◌, ◌*◌, ◌/◌, ◌^◌, ◌<◌, ◌≤◌, ℤ, pos, negsuc, ◌*ℤ◌, ◌<ℤ◌, ◌≢◌, neg_ℤ, int_div, unsigned_abs, true, false, sym, ◌∙◌, ap, refl, arith}
use Rattle.std.specs.Prelude.{nat_lt, nat_eq}
use Rattle.std.proofs.lemmas.Int.{ints, unsigned_abs-mul}
use Rattle.std.proofs.lemmas.Bool.Decides.{nat_tests}
use Rattle.std.proofs.Math.Nat.{add-mul, mul_comm, div-le_of_le-mul, div-mul-le_self, le_of_mul-le-mul_right, mul-le-mul_right}
use Rattle.wrapped_vectors.specs.Vectors.{vector}
use Rattle.wrapped_vectors.specs.declared.vectors.Vector.{Vector}
use Rattle.octahedron.specs.declared.points.Direction.{Direction}
use Rattle.octahedron.specs.Directions.{IsOnOctahedron}
use Rattle.normal_prediction.specs.Directions.{abs_sum, capped_sum, direction_at, divided, shrunk, scaled, rest, direction, opposite}

pub shrunk-long : (n : Vector) → 2 ^ 29 < capped_sum n → shrunk n ≡ divided n (capped_sum n / 2 ^ 29)
unfolding shrunk
shrunk-long n h = let is : nat_lt (2 ^ 29) (capped_sum n) ≡ true = grind (arith, nat_tests) in rw is refl

pub shrunk-short : (n : Vector) → capped_sum n ≤ 2 ^ 29 → shrunk n ≡ n
unfolding shrunk
shrunk-short n h = let is : nat_lt (2 ^ 29) (capped_sum n) ≡ false = grind (arith, nat_tests) in rw is refl

pub divided-is : (n r : Vector) (l : ℕ) (x y z : ℤ) → l ≡ capped_sum n → 2 ^ 29 < l → x ≡ int_div n.x (pos (l / 2 ^ 29)) → y ≡ int_div n.y (pos (l / 2 ^ 29))
    → z ≡ int_div n.z (pos (l / 2 ^ 29)) → r ≡ vector x y z → r ≡ shrunk n
divided-is n r l x y z el h ex ey ez er =
    let long : 2 ^ 29 < capped_sum n = rw (sym el) h in
    er ∙ rw (ex, ey, ez, el) refl ∙ sym (shrunk-long n long)

-- numbers alone: two parts of c, in proportion to parts of s
parts : (a b c s : ℕ) → 0 < s → a + b ≤ s → a * c / s + b * c / s ≤ c
parts a b c s hs h =
    let qa : a * c / s * s ≤ a * c = div-mul-le_self (a * c) s in
    let qb : b * c / s * s ≤ b * c = div-mul-le_self (b * c) s in
    let left : (a * c / s + b * c / s) * s ≡ a * c / s * s + b * c / s * s = add-mul (a * c / s) (b * c / s) s in
    let right : (a + b) * c ≡ a * c + b * c = add-mul a b c in
    let most : (a + b) * c ≤ s * c = mul-le-mul_right c h in
    let turned : s * c ≡ c * s = mul_comm s c in
    let all : (a * c / s + b * c / s) * s ≤ c * s = omega arith in
    le_of_mul-le-mul_right all hs

abs-neg : (k : ℕ) → unsigned_abs (neg_ℤ (pos k)) ≡ k
abs-neg zero = refl
abs-neg (suc k) = refl

size-int_div : (n : ℤ) (s : ℕ) → unsigned_abs (int_div n (pos s)) ≡ unsigned_abs n / s
size-int_div (pos n) s = refl
size-int_div (negsuc n) s = abs-neg (suc n / s)

-- the size of a quotient
pub size-part : (n c : ℤ) (s : ℕ) → unsigned_abs (int_div (n *ℤ c) (pos s)) ≡ unsigned_abs n * unsigned_abs c / s
size-part n c s = size-int_div (n *ℤ c) s ∙ ap (λ k. k / s) (unsigned_abs-mul n c)

-- a part is at most the whole
pub part-within : (n c : ℤ) (s : ℕ) → 0 < s → unsigned_abs n ≤ s → unsigned_abs (int_div (n *ℤ c) (pos s)) ≤ unsigned_abs c
part-within n c s hs h = rw (size-part n c s) (div-le_of_le-mul s {m = unsigned_abs n * unsigned_abs c} {n = unsigned_abs c} (mul-le-mul_right (unsigned_abs c) h))

-- two parts are at most the whole
pub parts-within : (m n c : ℤ) (s : ℕ) → 0 < s → unsigned_abs m + unsigned_abs n ≤ s
    → unsigned_abs (int_div (m *ℤ c) (pos s)) + unsigned_abs (int_div (n *ℤ c) (pos s)) ≤ unsigned_abs c
parts-within m n c s hs h = rw (size-part m c s, size-part n c s) (parts (unsigned_abs m) (unsigned_abs n) (unsigned_abs c) s hs h)

-- what is left for the third component makes a direction of it
pub IsOnOctahedron-rest : (c x y sign z : ℤ) → pos 0 <ℤ c → unsigned_abs x + unsigned_abs y ≤ unsigned_abs c → z ≡ rest c x y sign → IsOnOctahedron c (direction_at x y z)
IsOnOctahedron-rest c x y sign z hc h is = rw is (grind (arith, ints))

direction-some : (s : ℕ) → s ≢ 0 → nat_eq s 0 ≡ false
direction-some s some = grind (arith, nat_tests)

direction-scaled : (c : ℤ) (n : Vector) → nat_eq (abs_sum (shrunk n)) 0 ≡ false → direction c n ≡ scaled c (shrunk n) (abs_sum (shrunk n))
unfolding direction
direction-scaled c n is = rw is refl

direction-flat : (c : ℤ) (n : Vector) → abs_sum (shrunk n) ≡ 0 → direction c n ≡ direction_at c (pos 0) (pos 0)
unfolding direction
direction-flat c n none = let is : nat_eq (abs_sum (shrunk n)) 0 ≡ true = grind (arith, nat_tests) in rw is refl

pub scaled-is : (c : ℤ) (m : Vector) (s : ℕ) (x y z : ℤ) (r : Direction) → x ≡ int_div (m.x *ℤ c) (pos s)
    → y ≡ int_div (m.y *ℤ c) (pos s) → z ≡ rest c x y m.z → r ≡ direction_at x y z → r ≡ scaled c m s
scaled-is c m s x y z r ex ey ez er = rw (er, ez, ex, ey) refl

pub scaled-on : (c : ℤ) (m : Vector) (s : ℕ) → pos 0 <ℤ c → 0 < s → s ≡ abs_sum m → IsOnOctahedron c (scaled c m s)
scaled-on c m s hc hs es =
    IsOnOctahedron-rest c (int_div (m.x *ℤ c) (pos s)) (int_div (m.y *ℤ c) (pos s)) m.z _ hc (parts-within m.x m.y c s hs (omega arith)) refl

pub long-is : (c : ℤ) (n m : Vector) (s : ℕ) (r : Direction) → m ≡ shrunk n → s ≡ abs_sum m → s ≢ 0 → r ≡ scaled c m s → r ≡ direction c n
long-is c n m s r em es some er =
    let more : nat_eq (abs_sum (shrunk n)) 0 ≡ false = direction-some (abs_sum (shrunk n)) (rw (sym em) (rw (sym es) some)) in
    er ∙ rw (es, em) refl ∙ sym (direction-scaled c n more)

pub flat-is : (c : ℤ) (n m : Vector) (s : ℕ) (r : Direction) → m ≡ shrunk n → s ≡ abs_sum m → s ≡ 0 → r ≡ direction_at c (pos 0) (pos 0) → r ≡ direction c n
flat-is c n m s r em es none er =
    let flat : abs_sum (shrunk n) ≡ 0 = rw (sym em) (sym es ∙ none) in
    er ∙ sym (direction-flat c n flat)

pub opposite-is : (v r : Direction) (x y z : ℤ) → r ≡ direction_at x y z → x ≡ neg_ℤ v.x → y ≡ neg_ℤ v.y → z ≡ neg_ℤ v.z → r ≡ opposite v
opposite-is v r x y z er ex ey ez = rw (er, ex, ey, ez) refl

abs-neg_ℤ : (x : ℤ) → unsigned_abs (neg_ℤ x) ≡ unsigned_abs x
abs-neg_ℤ (pos n) = abs-neg n
abs-neg_ℤ (negsuc n) = refl

pub IsOnOctahedron-opposite : (c : ℤ) (v : Direction) → IsOnOctahedron c v → IsOnOctahedron c (opposite v)
IsOnOctahedron-opposite c v on = rw (abs-neg_ℤ v.x, abs-neg_ℤ v.y, abs-neg_ℤ v.z) on

pub sizes-is : (m : Vector) (x y z : ℕ) → x ≡ unsigned_abs m.x → y ≡ unsigned_abs m.y → z ≡ unsigned_abs m.z → x + (y + z) ≡ abs_sum m
sizes-is m x y z ex ey ez = rw (ex, ey, ez) refl
