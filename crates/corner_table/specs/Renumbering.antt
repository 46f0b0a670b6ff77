-- Lists of sides under new numbers of the faces. These are the code's own words, for the steps of `renumbered`; what it answers is stated
-- by `IsCarried`.
use Rattle.std.specs.Prelude.{◌≡◌, ℕ, ◌+◌, ◌*◌, ◌<◌, List, length, get_or, set}
use Rattle.corner_table.specs.Sides.{Side, Place, first, second, third, side, number}
use Rattle.corner_table.specs.Table.{free_entry}
use Rattle.corner_table.specs.Carried.{turned, carry}

-- for each old side the number of the side that it becomes
pub record ArePlaces (faces : ℕ) (rows : List (ℕ × ℕ)) (places : List ℕ) : Type 0 where
  pub long : length places ≡ 3 * faces
  pub becomes : (x : Side) → x.face < faces → get_or places (number (carry rows x)) free_entry ≡ number x

-- the side at a place p of face f, turned by t, becomes the side number n
abbrev pub placed : ℕ → ℕ → Place → ℕ → List ℕ → List ℕ
placed f t p n places = set places (number (side f (turned t p))) n

-- the three sides of face f, turned by t, become those from number n on
abbrev pub placed_face : ℕ → ℕ → ℕ → List ℕ → List ℕ
placed_face f t n places = placed f t third (n + 2) (placed f t second (n + 1) (placed f t first (n + 0) places))

-- what an old entry becomes: the number of a side what that side is now, and what is no side is free
abbrev pub becomes : List ℕ → List ℕ → Side → ℕ
becomes places entries s = get_or places (get_or entries (number s) free_entry) free_entry

-- the entries of the new sides
pub record AreCarried (faces : ℕ) (rows : List (ℕ × ℕ)) (places entries now : List ℕ) : Type 0 where
  pub long : length now ≡ 3 * faces
  pub entry : (x : Side) → x.face < faces → get_or now (number x) free_entry ≡ becomes places entries (carry rows x)
