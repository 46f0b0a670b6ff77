-- Which sides of a mesh are glued: sides in order, each to the least earlier free side that runs the
-- other way between the same positions, in another triangle (this project's choice).
use Rattle.std.specs.Prelude.{◌≡◌, ℕ, zero, suc, ◌*◌, ◌&&◌, Bool, true, false, not, cond, ℤ, List, [], ◌∷◌, take, length, Option, Some}
use Rattle.std.specs.Prelude.{None}
use Rattle.std.specs.Option.{is_some}
use Rattle.attr_heads.specs.declared.heads.Head.{Head}
use Rattle.mesh_model.specs.Parts.{MeshParts, corner}
use Rattle.mesh_model.specs.Assembled.{same_row}
use Rattle.corner_table.specs.Sides.{Side, next, prev, side_at, place_number, Gluing, unglued, glue, IsFree}

-- how many integers the first attribute has
abbrev pub first_width : List Head → ℕ
first_width [] = 0
first_width (head ∷ heads) = head.comps

-- the position of a corner: the integers of the first attribute at its point
abbrev pub corner_position : MeshParts → Side → List ℤ
corner_position m c = take (first_width m.heads) (corner m c.face (place_number c.place))

-- whether two corners have one position
abbrev pub same_position : MeshParts → Side → Side → Bool
same_position m c d = same_row (corner_position m c) (corner_position m d)

-- by a test of corners: sides x and y run between the same positions, one way and the other, and their third positions differ
abbrev pub may_pair : (Side → Side → Bool) → Side → Side → Bool
may_pair one_position x y = one_position (next x) (prev y) && one_position (prev x) (next y) && not (one_position x y)

-- the least number below n that passes a test
unfoldable pub least : (ℕ → Bool) → ℕ → Option ℕ
least passes zero = None
least passes (suc n) = elim (least passes n) [ None ↦ cond (passes n) (Some n) None | Some i ↦ Some i ]

-- whether side number x is free, and side y may be paired with it
abbrev pub is_choice : (Side → Side → Bool) → Gluing → Side → ℕ → Bool
is_choice one_position g y x = not (is_some (g (side_at x))) && may_pair one_position (side_at x) y

-- the turn of side number n: it takes the least earlier side that it may take
abbrev pub turn_of : (Side → Side → Bool) → ℕ → Gluing → Gluing
turn_of one_position n g =
    elim (least (is_choice one_position g (side_at n)) n) [ None ↦ g | Some x ↦ glue (side_at x) (side_at n) g ]

-- the pairs after the turns of the first n sides
unfoldable pub paired : (Side → Side → Bool) → ℕ → Gluing
paired one_position zero = unglued
paired one_position (suc n) = turn_of one_position n (paired one_position n)

-- the pairs of a mesh
abbrev pub pairing : MeshParts → Gluing
pairing m = paired (same_position m) (3 * length m.faces)

-- each pair may be one
abbrev pub PairsFit : (Side → Side → Bool) → Gluing → Type 0
PairsFit one_position g = (x y : Side) → g x ≡ Some y → may_pair one_position x y ≡ true

-- of the sides left free no two may be paired
abbrev pub NoneIsLeft : ℕ → (Side → Side → Bool) → Gluing → Type 0
NoneIsLeft faces one_position g = (x y : Side) → IsFree faces g x → IsFree faces g y → may_pair one_position x y ≡ false
