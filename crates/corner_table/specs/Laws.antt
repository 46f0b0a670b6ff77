-- What holds of swings, fans, gluings, prefixes, new numbers of faces, and the boundary.
use Rattle.std.specs.Prelude.{◌≡◌, ◌≢◌, ℕ, suc, ◌*◌, ◌<◌, ◌≤◌, ◌⊎◌, ◌↔◌, true, cond, List, length, Some, None}
use Rattle.corner_table.specs.Sides.{Side, Place, side, place_after, place_before, next, prev, number, same, Gluing, glue, IsGluing, IsFree}
use Rattle.corner_table.specs.Fans.{swing_left, swing_right, left_by, right_by, InFan, side_before, side_after, Follows, HasThreeFans}
use Rattle.corner_table.specs.Fans.{IsProper, meets}
use Rattle.corner_table.specs.Prefixes.{prefix, IsSurrounded, IsGap}
use Rattle.corner_table.specs.Carried.{carry, IsRenumbering, IsCarried}
use Rattle.corner_table.specs.Links.{IsLinked, new_loop, relinked}

-- a swing to the left and one to the right undo one another
abbrev pub SwingsAreInverse : Type 0
SwingsAreInverse = (faces : ℕ) (g : Gluing) → IsGluing faces g → (c d : Side) → (swing_left g c ≡ Some d) ↔ (swing_right g d ≡ Some c)

-- to be in one fan goes both ways, and on
abbrev pub FansAreClasses : Type 0
FansAreClasses = (faces : ℕ) (g : Gluing) → IsGluing faces g →
    ((c d : Side) → InFan g c d → InFan g d c) × ((c d e : Side) → InFan g c d → InFan g d e → InFan g c e)

-- two corners are in one fan exactly where swings to the left lead from one of them to the other
abbrev pub FanIsOneWalk : Type 0
FanIsOneWalk = (faces : ℕ) (g : Gluing) → IsGluing faces g → (c d : Side) →
    InFan g c d ↔ ((n : ℕ) × ((left_by g n c ≡ Some d) ⊎ (left_by g n d ≡ Some c)))

-- from any corner of a fan swings to the left come to a last one, and swings to the right to a first one
abbrev pub WalksEnd : Type 0
WalksEnd = (faces : ℕ) (g : Gluing) → IsGluing faces g → (c d : Side) → InFan g c d →
    (swing_left g d ≡ None → (n : ℕ) × (left_by g n c ≡ Some d)) × (swing_right g d ≡ None → (n : ℕ) × (right_by g n c ≡ Some d))

-- each corner of the fan of c lies between two glued sides
abbrev pub IsClosed : Gluing → Side → Type 0
IsClosed g c = (d : Side) → InFan g c d → (g (next d) ≢ None) × (g (prev d) ≢ None)

-- a free side starts at the fan of c, and a free side ends there
abbrev pub IsOpen : ℕ → Gluing → Side → Type 0
IsOpen faces g c = (x y : Side) × IsFree faces g x × IsFree faces g y × InFan g c (next x) × InFan g c (prev y)

-- a fan is closed, or it has a first and a last side
abbrev pub FanIsClosedOrOpen : Type 0
FanIsClosedOrOpen = (faces : ℕ) (g : Gluing) → IsGluing faces g → (c : Side) → c.face < faces → IsClosed g c ⊎ IsOpen faces g c

-- one side in no pair starts at a fan, at most
abbrev pub StartsOnce : Type 0
StartsOnce = (faces : ℕ) (g : Gluing) → IsGluing faces g → (x y : Side) → g x ≡ None → g y ≡ None → InFan g (next x) (next y) → x ≡ y

-- and one ends there, at most
abbrev pub EndsOnce : Type 0
EndsOnce = (faces : ℕ) (g : Gluing) → IsGluing faces g → (x y : Side) → g x ≡ None → g y ≡ None → InFan g (prev x) (prev y) → x ≡ y

-- corners that are one fan when the end of each of the sides a and b meets the start of the other, and nothing else meets: from the fan
-- of such an end or start the one that it meets is reached
pub data IsJoined (g : Gluing) (a b : Side) : Side → Side → Type 0 where
  kept : {c d : Side} → InFan g c d → IsJoined g a b c d
  first_end : {c d : Side} → InFan g c (prev a) → IsJoined g a b (next b) d → IsJoined g a b c d
  second_start : {c d : Side} → InFan g c (next b) → IsJoined g a b (prev a) d → IsJoined g a b c d
  second_end : {c d : Side} → InFan g c (prev b) → IsJoined g a b (next a) d → IsJoined g a b c d
  first_start : {c d : Side} → InFan g c (next a) → IsJoined g a b (prev b) d → IsJoined g a b c d

-- two free sides of two faces make a gluing again
abbrev pub GluingStays : Type 0
GluingStays = (faces : ℕ) (g : Gluing) (a b : Side) → IsGluing faces g → IsFree faces g a → IsFree faces g b → a.face ≢ b.face →
    IsGluing faces (glue a b g)

-- what is one fan stays one
abbrev pub FansStay : Type 0
FansStay = (faces : ℕ) (g : Gluing) (a b : Side) → IsFree faces g a → IsFree faces g b → (c d : Side) → InFan g c d → InFan (glue a b g) c d

-- the end of each side of a pair and the start of the other are one fan
abbrev pub EndsMeet : Type 0
EndsMeet = (g : Gluing) (a b : Side) → InFan (glue a b g) (prev a) (next b) × InFan (glue a b g) (next a) (prev b)

-- fans that meet there become one
abbrev pub FansJoin : Type 0
FansJoin = (faces : ℕ) (g : Gluing) (a b : Side) → IsGluing faces g → IsFree faces g a → IsFree faces g b → a.face ≢ b.face →
    (c d : Side) → IsJoined g a b c d → InFan (glue a b g) c d

-- and no others
abbrev pub NoOthersJoin : Type 0
NoOthersJoin = (g : Gluing) (a b c d : Side) → InFan (glue a b g) c d → IsJoined g a b c d

-- among the faces below m there is a gap for a corner of a later face that they surround
abbrev pub SurroundedFillsGap : Type 0
SurroundedFillsGap = (faces : ℕ) (g : Gluing) (m : ℕ) (c : Side) → IsGluing faces g → m ≤ c.face → IsSurrounded g m c →
    (right left : Side) × IsGap g m c right left

-- a corner of a later face between sides of which one starts where the other ends is surrounded
abbrev pub GapIsSurrounded : Type 0
GapIsSurrounded = (faces : ℕ) (g : Gluing) (m : ℕ) (c right left : Side) → IsGluing faces g → m ≤ c.face →
    g (next c) ≡ Some right → g (prev c) ≡ Some left → right.face < m → InFan (prefix m g) (next right) (prev left) → IsSurrounded g m c

-- round the boundary of the faces below m, the second side of a gap comes before the first
abbrev pub GapIsOneStep : Type 0
GapIsOneStep = (faces : ℕ) (g : Gluing) (m : ℕ) (c right left : Side) → IsGluing faces g → IsGap g m c right left →
    left ≡ side_before m (prefix m g) right

-- the pairs among the faces below m are a gluing of these faces
abbrev pub PrefixIsGluing : Type 0
PrefixIsGluing = (faces : ℕ) (g : Gluing) (m : ℕ) → IsGluing faces g → IsGluing m (prefix m g)

-- a pair of face m and a face below it
abbrev pub IsPairOf : ℕ → Gluing → Side → Side → Type 0
IsPairOf m g x y = (g x ≡ Some y) × (((x.face ≡ m) × (y.face < m)) ⊎ ((y.face ≡ m) × (x.face < m)))

-- one face more brings exactly its pairs with the faces below it
abbrev pub FaceBringsItsPairs : Type 0
FaceBringsItsPairs = (faces : ℕ) (g : Gluing) (m : ℕ) → IsGluing faces g → (x y : Side) →
    (prefix (suc m) g x ≡ Some y) ↔ ((prefix m g x ≡ Some y) ⊎ IsPairOf m g x y)

-- h is the gluing g under new numbers of its faces
pub record AreOneSurface (faces : ℕ) (g : Gluing) (rows : List (ℕ × ℕ)) (h : Gluing) : Type 0 where
  pub gluing : IsGluing faces g
  pub renumbering : IsRenumbering faces rows
  pub carried : IsCarried faces g rows h

-- new numbers keep a gluing one
abbrev pub GluingIsCarried : Type 0
GluingIsCarried = (faces : ℕ) (g h : Gluing) (rows : List (ℕ × ℕ)) → IsGluing faces g → IsCarried faces g rows h → IsGluing faces h

-- two corners are one fan under new numbers exactly where they were
abbrev pub FansAreCarried : Type 0
FansAreCarried = (faces : ℕ) (g h : Gluing) (rows : List (ℕ × ℕ)) → AreOneSurface faces g rows h →
    (c d : Side) → c.face < faces → d.face < faces → InFan h c d ↔ InFan g (carry rows c) (carry rows d)

-- a side is free exactly where it was
abbrev pub FreeIsCarried : Type 0
FreeIsCarried = (faces : ℕ) (g h : Gluing) (rows : List (ℕ × ℕ)) → AreOneSurface faces g rows h →
    (x : Side) → x.face < faces → IsFree faces h x ↔ IsFree faces g (carry rows x)

-- the boundary is the same one
abbrev pub BoundaryIsCarried : Type 0
BoundaryIsCarried = (faces : ℕ) (g h : Gluing) (rows : List (ℕ × ℕ)) → AreOneSurface faces g rows h → (x : Side) → IsFree faces h x →
    (carry rows (side_after faces h x) ≡ side_after faces g (carry rows x))
    × (carry rows (side_before faces h x) ≡ side_before faces g (carry rows x))

-- three fans to a face stay three
abbrev pub ThreeFansAreCarried : Type 0
ThreeFansAreCarried = (faces : ℕ) (g h : Gluing) (rows : List (ℕ × ℕ)) → IsRenumbering faces rows → IsCarried faces g rows h →
    HasThreeFans faces g → HasThreeFans faces h

-- a proper surface stays proper
abbrev pub ProperIsCarried : Type 0
ProperIsCarried = (faces : ℕ) (g h : Gluing) (rows : List (ℕ × ℕ)) → IsRenumbering faces rows → IsCarried faces g rows h →
    IsProper faces g → IsProper faces h

-- exactly one free side follows a free one
abbrev pub OneFollows : Type 0
OneFollows = (faces : ℕ) (g : Gluing) → IsGluing faces g → (a : Side) → IsFree faces g a →
    Follows faces g a (side_after faces g a) × ((b : Side) → Follows faces g a b → b ≡ side_after faces g a)

-- and it follows exactly one
abbrev pub OneComesBefore : Type 0
OneComesBefore = (faces : ℕ) (g : Gluing) → IsGluing faces g → (a : Side) → IsFree faces g a →
    IsFree faces g (side_before faces g a) × Follows faces g (side_before faces g a) a
    × ((z : Side) → IsFree faces g z → Follows faces g z a → z ≡ side_before faces g a)

-- the side that follows the one before x is x, and so is the one before the side that follows it
abbrev pub LinksAreInverse : Type 0
LinksAreInverse = (faces : ℕ) (g : Gluing) → IsGluing faces g → (x : Side) → IsFree faces g x →
    (side_after faces g (side_before faces g x) ≡ x) × (side_before faces g (side_after faces g x) ≡ x)

-- the sides of a new face follow one another
abbrev pub NewFaceIsLoop : Type 0
NewFaceIsLoop = (faces : ℕ) (g : Gluing) → IsGluing faces g → (k : Place) →
    (side_after (suc faces) g (side faces k) ≡ side faces (place_after k))
    × (side_before (suc faces) g (side faces k) ≡ side faces (place_before k))

-- and it changes nothing else of the boundary
abbrev pub OthersStay : Type 0
OthersStay = (faces : ℕ) (g : Gluing) → IsGluing faces g → (x : Side) → IsFree faces g x →
    (side_after (suc faces) g x ≡ side_after faces g x) × (side_before (suc faces) g x ≡ side_before faces g x)

-- past side a, where it is glued to b: the neighbour of b, or where b is alone in its loop the neighbour of a
abbrev pub past : (Side → Side) → Side → Side → Side
past neighbour a b = cond (same (neighbour b) b) (neighbour a) (neighbour b)

-- the neighbour of x when a and b are glued
abbrev pub neighbour_past : (Side → Side) → Side → Side → Side → Side
neighbour_past neighbour a b x =
    cond (same (neighbour x) a) (past neighbour a b)
    (cond (same (neighbour x) b) (past neighbour b a) (neighbour x))

-- a gluing takes its two sides out of the boundary
abbrev pub GluingTakesOut : Type 0
GluingTakesOut = (faces : ℕ) (g : Gluing) (a b : Side) → IsGluing faces g → IsFree faces g a → IsFree faces g b → a.face ≢ b.face →
    (x : Side) → IsFree faces (glue a b g) x →
    (side_after faces (glue a b g) x ≡ neighbour_past (side_after faces g) a b x)
    × (side_before faces (glue a b g) x ≡ neighbour_past (side_before faces g) a b x)

-- the lists of links of a boundary, with room for all its sides
pub record AreLinkLists (faces room : ℕ) (g : Gluing) (links : List ℕ × List ℕ) : Type 0 where
  pub gluing : IsGluing faces g
  pub linked : IsLinked faces g links.0 links.1
  pub after_room : 3 * room ≤ length links.0
  pub before_room : 3 * room ≤ length links.1

-- the lists with the loop of a new face are those of the new boundary
abbrev pub NewLoopIsLinked : Type 0
NewLoopIsLinked = (faces : ℕ) (g : Gluing) (links : List ℕ × List ℕ) → AreLinkLists faces (suc faces) g links →
    IsLinked (suc faces) g (new_loop faces links).0 (new_loop faces links).1

-- the lists without two glued sides are those of the new boundary
abbrev pub TakenOutIsLinked : Type 0
TakenOutIsLinked = (faces : ℕ) (g : Gluing) (a b : Side) (links : List ℕ × List ℕ) → AreLinkLists faces faces g links → IsFree faces g a →
    IsFree faces g b → a.face ≢ b.face →
    IsLinked faces (glue a b g) (relinked (number a) (number b) links).0 (relinked (number a) (number b) links).1

-- the test of one fan finds the corners of the fan
abbrev pub TestFindsFan : Type 0
TestFindsFan = (faces : ℕ) (g : Gluing) → IsGluing faces g → (c d : Side) → c.face < faces → d.face < faces → InFan g c d →
    meets faces g c d ≡ true

-- and no other
abbrev pub TestFindsNoOther : Type 0
TestFindsNoOther = (faces : ℕ) (g : Gluing) (c d : Side) → meets faces g c d ≡ true → InFan g c d
