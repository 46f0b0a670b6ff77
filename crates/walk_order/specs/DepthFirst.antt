-- The depth-first order of entries (Draco Bitstream Specification 2.2, depth-first traversal).
use Rattle.std.specs.Prelude.{ℕ, zero, suc, Bool, true, false, not, ◌&&◌, cond, List, get_or, Option, Some, None}
use Rattle.corner_table.specs.Sides.{Side, first, side, next, prev, Gluing}
use Rattle.corner_table.specs.Labels.{label_at}
use Rattle.walk_order.specs.Visits.{Walk, unwalked, is_visited, is_new, entered, with_base}

-- the walk goes right alone: the class of the corner is new, and no free side meets it
abbrev pub goes_right_alone : List ℕ → List Bool → Walk → Side → Bool
goes_right_alone labels ends w c = is_new labels w.entries c && not (get_or ends (label_at labels c) false)

-- the walk from a corner, no more than so many faces deep: nothing at a visited face; else the face is entered, and the walk goes on
-- to the right, across the side after the corner, and then, unless it goes right alone, to the left, across the side before it
unfoldable pub walk : Gluing → List ℕ → List Bool → ℕ → Walk → Option Side → Walk
walk g labels ends zero w o = w
walk g labels ends (suc n) w None = w
walk g labels ends (suc n) w (Some c) = elim (is_visited w c.face) [
  | true ↦ w
  | false ↦ (
      let right = walk g labels ends n (entered labels w c) (g (next c)) in
      elim (goes_right_alone labels ends w c) [ true ↦ right | false ↦ walk g labels ends n right (g (prev c)) ])
]

-- the walk of a face, unless it is visited: its corners 1 and 2 become entries, and it is walked from corner 0
abbrev pub walked_from : ℕ → Gluing → List ℕ → List Bool → ℕ → Walk → Walk
walked_from faces g labels ends f w = cond (is_visited w f) w (walk g labels ends faces (with_base labels w f) (Some (side f first)))

-- walks of the first faces in turn
unfoldable pub depth_walked : ℕ → Gluing → List ℕ → List Bool → ℕ → Walk
depth_walked faces g labels ends zero = unwalked faces
depth_walked faces g labels ends (suc f) = walked_from faces g labels ends f (depth_walked faces g labels ends f)

-- the corners of the entries, in order
abbrev pub depth_first_order : ℕ → Gluing → List ℕ → List Bool → List Side
depth_first_order faces g labels ends = (depth_walked faces g labels ends faces).entries
