-- One face more: where a face is built and some of its sides are glued, when names for the fans before give names for the fans after. Every
-- rule of the machine with names is such a step: E glues no side of the new face, R and L one, C and S two, and a face that fills a loop
-- three. The conditions are this project's own.
use Rattle.std.specs.Prelude.{◌≡◌, ◌≢◌, ℕ, ◌<◌, ◌⊎◌, List, [], ◌∷◌, ◌++◌, length, map}
use Rattle.corner_table.specs.Sides.{Side, Place, side, next, prev, place_after, place_before, Gluing, glue, IsFree}
use Rattle.corner_table.specs.Fans.{InFan}
use Rattle.eb_machine.specs.Named.{Triangle, corner, Row, new_row, without, renamed_triangle, renamed_row}
use Rattle.eb_machine.specs.Shown.{name_of, AreNames}

-- the places of a new face that are glued, each with its side, the last first
abbrev pub Pairs : Type 0
Pairs = List (Place × Side)

-- face f glued so
abbrev pub glue_all : ℕ → Pairs → Gluing → Gluing
glue_all f [] g = g
glue_all f (p ∷ ps) g = glue (side f p.0) p.1 (glue_all f ps g)

-- a side to which no pair glues
abbrev pub IsOther : Side → Pairs → Type 0
IsOther x [] = Unit {0}
IsOther x (p ∷ ps) = (x ≢ p.1) × IsOther x ps

-- a place of the new face that no pair glues
abbrev pub IsOtherPlace : Place → Pairs → Type 0
IsOtherPlace k [] = Unit {0}
IsOtherPlace k (p ∷ ps) = (k ≢ p.0) × IsOtherPlace k ps

-- free sides and places, all apart
abbrev pub PairsAreApart : ℕ → Gluing → Pairs → Type 0
PairsAreApart f g [] = Unit {0}
PairsAreApart f g (p ∷ ps) = IsFree f g p.1 × IsOther p.1 ps × IsOtherPlace p.0 ps × PairsAreApart f g ps

-- a corner of the new face that is an end of a side which is glued, so that it meets a corner of the faces before
abbrev pub Touches : Place → Pairs → Type 0
Touches k [] = ⊥
Touches k (p ∷ ps) = (place_after p.0 ≡ k) ⊎ ((place_before p.0 ≡ k) ⊎ Touches k ps)

-- the triangles renamed, and one more
abbrev pub more_triangles : (ℕ → ℕ) → List Triangle → Triangle → List Triangle
more_triangles rename ts t = map (renamed_triangle rename) ts ++ (t ∷ [])

-- the rows that stay, and those of the new face
abbrev pub without_all : Pairs → List Row → List Row
without_all [] rows = rows
without_all (p ∷ ps) rows = without p.1 (without_all ps rows)

abbrev pub new_rows : ℕ → Triangle → List Place → List Row
new_rows f t [] = []
new_rows f t (k ∷ ks) = new_row f t k ∷ new_rows f t ks

abbrev pub HasPlace : Place → List Place → Type 0
HasPlace k [] = ⊥
HasPlace k (j ∷ ks) = (j ≡ k) ⊎ HasPlace k ks

-- the names of the new triangle fit those at the ends of the sides to which it is glued
abbrev pub FitsNames : List Triangle → (ℕ → ℕ) → Triangle → Pairs → Type 0
FitsNames ts rename t [] = Unit {0}
FitsNames ts rename t (p ∷ ps) = (corner t (place_before p.0) ≡ rename (name_of ts (next p.1)))
    × (corner t (place_after p.0) ≡ rename (name_of ts (prev p.1))) × FitsNames ts rename t ps

-- a corner with a name of its own
abbrev pub IsNewName : List Triangle → (ℕ → ℕ) → Triangle → Place → Type 0
IsNewName ts rename t k = ((c : Side) → c.face < length ts → rename (name_of ts c) ≢ corner t k)
    × ((j : Place) → j ≢ k → corner t j ≢ corner t k)

-- the new triangle t, glued at some places and left at the places ks, with the names of the triangles before changed by a map
pub record Grows (ts : List Triangle) (rows : List Row) (g : Gluing) (made made' : ℕ) (rename : ℕ → ℕ)
    (t : Triangle) (ps : Pairs) (ks : List Place) : Type 0 where
  pub names : AreNames ts rows g made
  pub apart : PairsAreApart (length ts) g ps
  -- corners that meet have one name, and every other corner of the new face has one of its own
  pub fits : FitsNames ts rename t ps
  pub corners : (k : Place) → Touches k ps ⊎ IsNewName ts rename t k
  -- names that become one are those of corners that come into one fan
  pub merged : (c d : Side) → c.face < length ts → d.face < length ts → rename (name_of ts c) ≡ rename (name_of ts d) →
      InFan (glue_all (length ts) ps g) c d
  -- the places that are left are exactly those that aren't glued
  pub left : (k : Place) → IsOtherPlace k ps → HasPlace k ks
  pub left_only : (k : Place) → HasPlace k ks → IsOtherPlace k ps
  -- names stay below the number of those made
  pub below_old : (m : ℕ) → m < made → rename m < made'
  pub below_new : (k : Place) → corner t k < made'

-- then names are fans after it too, and rows the free sides
abbrev pub OneFaceMore : Type 0
OneFaceMore = (ts : List Triangle) (rows : List Row) (g : Gluing) (made made' : ℕ) (rename : ℕ → ℕ)
    (t : Triangle) (ps : Pairs) (ks : List Place) → Grows ts rows g made made' rename t ps ks →
    AreNames (more_triangles rename ts t) (map (renamed_row rename) (without_all ps rows) ++ new_rows (length ts) t ks)
    (glue_all (length ts) ps g) made'
