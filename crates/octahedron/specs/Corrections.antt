-- Values from predictions and corrections, and corrections from values (Draco 1.5.5, canonicalized octahedral transform): a prediction
-- outside the diamond is flipped into it, then turned to the bottom left, and what is corrected is moved with it, and back.
use Rattle.std.specs.Prelude.{ℕ, zero, suc, ◌+◌, ◌-◌, ◌%◌, ℤ, pos, ◌+ℤ◌, ◌-ℤ◌, ◌≤ℤ◌, neg_ℤ, unsigned_abs, int_lt, if◌then◌else◌}
use Rattle.octahedron.specs.declared.points.Point.{Point}
use Rattle.octahedron.specs.Square.{point, is_outside, flip, canonical, centred, value_at}

-- a point at the bottom left: neither coordinate is positive
pub record IsBottomLeft (p : Point) : Type 0 where
  pub s : p.s ≤ℤ pos 0
  pub t : p.t ≤ℤ pos 0

-- a turn by so many quarters
abbrev pub turn : ℕ → Point → Point
turn zero p = p
turn (suc zero) p = point p.t (neg_ℤ p.s)
turn (suc (suc zero)) p = point (neg_ℤ p.s) (neg_ℤ p.t)
turn (suc (suc (suc r))) p = point (neg_ℤ p.t) p.s

-- the quarters that turn a point to the bottom left
unfoldable pub quarters : Point → ℕ
quarters p =
    if int_lt p.s (pos 0) then (if int_lt (pos 0) p.t then 3 else 0)
    else if int_lt (pos 0) p.s then (if int_lt p.t (pos 0) then 1 else 2)
    else if int_lt (pos 0) p.t then 3
    else if int_lt p.t (pos 0) then 1 else 0

-- a sum brought back by the width of the square, where it has left it
abbrev pub folded : ℤ → ℤ → ℤ
folded c x =
    if int_lt c x then x -ℤ ((c +ℤ c) +ℤ pos 1)
    else if int_lt x (neg_ℤ c) then x +ℤ ((c +ℤ c) +ℤ pos 1)
    else x

-- a difference as a number from 0 on, by the width of the square where it is negative
abbrev pub lifted : ℤ → ℤ → ℤ
lifted c x = if int_lt x (pos 0) then x +ℤ ((c +ℤ c) +ℤ pos 1) else x

-- flipped where the prediction p lies outside the diamond
abbrev pub flipped_as : ℤ → Point → Point → Point
flipped_as c p v = if is_outside c p then flip c v else v

-- the quarters of the prediction p, once it is in the diamond
abbrev pub quarters_of : ℤ → Point → ℕ
quarters_of c p = quarters (flipped_as c p p)

-- moved as the prediction p is moved to the bottom left, and moved back
abbrev pub moved : ℤ → Point → Point → Point
moved c p v = turn (quarters_of c p) (flipped_as c p v)

abbrev pub moved_back : ℤ → Point → Point → Point
moved_back c p x = flipped_as c p (turn ((4 - quarters_of c p) % 4) x)

-- the point at this prediction and correction
abbrev pub restored : ℤ → Point → Point → Point
restored c p d = moved_back c p (point (folded c ((moved c p p).s +ℤ d.s)) (folded c ((moved c p p).t +ℤ d.t)))

-- the correction of this point at this prediction
abbrev pub correction : ℤ → Point → Point → Point
correction c p v = point (lifted c ((moved c p v).s -ℤ (moved c p p).s)) (lifted c ((moved c p v).t -ℤ (moved c p p).t))

-- the spelling in which a point comes back at a prediction: its own where that lies in the diamond, the canonical one where it lies outside
abbrev pub spelled : ℤ → Point → Point → Point
spelled c p v = if is_outside c p then canonical c v else v

-- the same of values: the value at this predicted value and correction, the correction of this value at this predicted value, and the
-- spelling in which it comes back
abbrev pub restored_value : ℤ → Point → Point → Point
restored_value c p d = value_at c (restored c (centred c p) d)

abbrev pub correction_of : ℤ → Point → Point → Point
correction_of c p v = correction c (centred c p) (centred c v)

abbrev pub spelled_value : ℤ → Point → Point → Point
spelled_value c p v = value_at c (spelled c (centred c p) (centred c v))

-- the size of a correction, by which an encoder chooses between two predictions
abbrev pub size : ℤ → Point → ℕ
size c d = unsigned_abs (folded c d.s) + unsigned_abs (folded c d.t)
