-- Corners and sides of triangles, and the gluing of sides in pairs (a corner table, after Rossignac 1999).
use Rattle.std.specs.Prelude.{◌≡◌, ◌≢◌, ℕ, zero, suc, ◌+◌, ◌*◌, ◌/◌, ◌%◌, ◌<◌, Bool, true, false, ◌&&◌, eqb, cond, Option, Some, None}

-- which of the three corners of a face
pub data Place : Type 0 where
  first : Place
  second : Place
  third : Place

-- corner 0, 1 or 2 of a face, and the side opposite to it: side k runs from corner k + 1 to corner k + 2, modulo 3
pub record Side : Type 0 where
  pub face : ℕ
  pub place : Place

abbrev pub side : ℕ → Place → Side
side f k = record { face = f; place = k }

abbrev pub place_after : Place → Place
place_after first = second
place_after second = third
place_after third = first

abbrev pub place_before : Place → Place
place_before first = third
place_before second = first
place_before third = second

-- the corner after c in its face; side c starts there
abbrev pub next : Side → Side
next c = side c.face (place_after c.place)

-- the corner before c in its face; side c ends there
abbrev pub prev : Side → Side
prev c = side c.face (place_before c.place)

abbrev pub place_eq : Place → Place → Bool
place_eq first first = true
place_eq second second = true
place_eq third third = true
place_eq first second = false
place_eq first third = false
place_eq second first = false
place_eq second third = false
place_eq third first = false
place_eq third second = false

-- whether two sides are one
abbrev pub same : Side → Side → Bool
same a b = eqb a.face b.face && place_eq a.place b.place

abbrev pub place_number : Place → ℕ
place_number first = 0
place_number second = 1
place_number third = 2

abbrev pub place_of : ℕ → Place
place_of zero = first
place_of (suc zero) = second
place_of (suc (suc n)) = third

-- side k of face f has the number 3f + k
abbrev pub number : Side → ℕ
number s = 3 * s.face + place_number s.place

-- the side that has a number
abbrev pub side_at : ℕ → Side
side_at n = side (n / 3) (place_of (n % 3))

-- how sides are glued: the other side of each side's pair, if it is in one
abbrev pub Gluing : Type 0
Gluing = Side → Option Side

-- no pair
abbrev pub unglued : Gluing
unglued x = None

-- sides a and b become a pair; all else stays
abbrev pub glue : Side → Side → Gluing → Gluing
glue a b g x = cond (same x a) (Some b) (cond (same x b) (Some a) (g x))

-- a gluing of the sides of the faces below `faces`: each side is in at most one pair, and the two sides of a pair belong to two faces
pub record IsGluing (faces : ℕ) (g : Gluing) : Type 0 where
  pub paired : (x y : Side) → g x ≡ Some y → g y ≡ Some x
  pub within : (x y : Side) → g x ≡ Some y → x.face < faces
  pub apart : (x y : Side) → g x ≡ Some y → x.face ≢ y.face

-- a free side: of one of the faces, in no pair
pub record IsFree (faces : ℕ) (g : Gluing) (x : Side) : Type 0 where
  pub within : x.face < faces
  pub free : g x ≡ None
