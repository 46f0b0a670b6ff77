-- The names of the corners of built faces: a vertex is named when it is made, and where two become one their names are joined. These are
-- the code's own words, for the labels that a linked rebuilding keeps while it builds; what it answers is stated by `IsLabelled`.
use Rattle.std.specs.Prelude.{◌≡◌, ℕ, ◌+◌, ◌*◌, ◌/◌, ◌<◌, ◌≤◌, ◌↔◌, Bool, true, false, ◌==◌, cond, IsTrue, List, [], ◌∷◌, ◌++◌, length}
use Rattle.std.specs.Prelude.{get_or, set}
use Rattle.corner_table.specs.Sides.{Side, number, next, side_at, Gluing, IsGluing}
use Rattle.corner_table.specs.Fans.{InFan}
use Rattle.corner_table.specs.Table.{Table, gluing_of, room_of, free_entry}
use Rattle.eb_machine.specs.Named.{Triangle}
use Rattle.eb_rebuild.specs.JoinedNames.{Falls, root_in, number_of}

-- the name of each corner by its number, what each name was joined to, and how many corners and names there is room for
pub record NamedCorners : Type 0 where
  pub names : List ℕ
  pub up : List ℕ
  pub room : ℕ

-- the name of a corner
abbrev pub name_at : NamedCorners → Side → ℕ
name_at v c = get_or v.names (number c) 0

-- the one name of its vertex
abbrev pub vertex_at : NamedCorners → Side → ℕ
vertex_at v c = root_in v.up (name_at v c)

-- the names of the corners of one face more
abbrev pub with_face : List ℕ → Triangle → List ℕ
with_face names t = names ++ (t.0 ∷ t.1 ∷ t.2 ∷ [])

-- the face of a side has names
abbrev pub HasFaceOf : List ℕ → ℕ → Type 0
HasFaceOf names side = 3 * (side / 3) + 3 ≤ length names

-- corners are one vertex exactly where they are one fan, and before a corner each name less than its own has been met
pub record IsNaming (faces : ℕ) (g : Gluing) (v : NamedCorners) : Type 0 where
  pub gluing : IsGluing faces g
  pub each_corner : length v.names ≡ 3 * faces
  pub below : (c : Side) → c.face < faces → name_at v c < length v.up
  pub met : (x : ℕ) → x < length v.up → (c : Side) × (c.face < faces) × (name_at v c ≡ x)
  pub in_order : (c : Side) → c.face < faces → (x : ℕ) → x < name_at v c → (b : Side) × (number b < number c) × (name_at v b ≡ x)
  pub falls : Falls v.up
  pub one_vertex : (c d : Side) → InFan g c d → vertex_at v c ≡ vertex_at v d
  pub one_fan : (c d : Side) → c.face < faces → d.face < faces → vertex_at v c ≡ vertex_at v d → InFan g c d

-- the names that a rebuilding keeps: those of its table, as many as were made, and room for those of all faces that there is room for
pub record KeepsNames (table : Table) (made : ℕ) (v : NamedCorners) : Type 0 where
  pub naming : IsNaming table.faces (gluing_of table) v
  pub as_many : length v.up ≡ made
  pub room : 3 * room_of table ≤ v.room

-- labels are the numbers of the roots of the names
pub record AreNumbers (names up labels : List ℕ) : Type 0 where
  pub long : length labels ≡ length names
  pub number : (i : ℕ) → i < length names → get_or labels i 0 ≡ number_of (root_in up) (get_or names i 0)

-- among the sides below i, a free one starts at the vertex with a label
abbrev pub StartsBelow : List ℕ → List ℕ → ℕ → ℕ → Type 0
StartsBelow across labels i label =
    (x : ℕ) × (x < i) × (get_or across x free_entry ≡ free_entry) × (get_or labels (number (next (side_at x))) 0 ≡ label)

-- the label of the vertex at which a side starts is marked where the side is free
abbrev pub marked_start : List ℕ → List ℕ → ℕ → List Bool → List Bool
marked_start across labels x ends =
    cond (get_or across x free_entry == free_entry) (set ends (get_or labels (number (next (side_at x))) 0) true) ends

-- the labels of the vertices at which one of these starts are marked, and no others
pub record AreMarked (across labels : List ℕ) (i count : ℕ) (ends : List Bool) : Type 0 where
  pub each_label : length ends ≡ count
  pub marked : (label : ℕ) → IsTrue (get_or ends label false) ↔ StartsBelow across labels i label
