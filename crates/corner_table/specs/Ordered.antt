-- The surface that entries stand on, and the face across a side of it (a corner table, after Rossignac 1999; Draco Bitstream
-- Specification 2.2, section "Mesh Parallelogram Prediction").
use Rattle.std.specs.Prelude.{◌≡◌, ℕ, ◌*◌, ◌<◌, ◌≤◌, eqb, nat_lt, Bool, ◌&&◌, cond, List, length, map, get_or, Option, Some, None, All}
use Rattle.drc_base.specs.declared.limits.TheConstants.{MAX_FACES}
use Rattle.corner_table.specs.declared.corner_lists.FaceAcross.{FaceAcross}
use Rattle.corner_table.specs.declared.corner_lists.Order.{Order}
use Rattle.corner_table.specs.Sides.{Side, first, side, side_at, next, prev, number, Gluing, IsGluing}
use Rattle.corner_table.specs.Table.{Table, gluing_of, glued_in, free_entry}

-- how the sides are glued, the corner of each entry, and the entry of each corner, by the corner's number
pub record Ordered : Type 0 where
  pub gluing : Gluing
  pub corners : List Side
  pub entries : List ℕ

-- the entries of the corners that have these classes, by the entry of each class
abbrev pub entries_by : List ℕ → List ℕ → List ℕ
entries_by labels entry_of_class = map (λ (k : ℕ). get_or entry_of_class k 0) labels

-- a table, the classes of its corners, and an order over it
abbrev pub ordered : Table → List ℕ → Order → Ordered
ordered t labels o = record { gluing = gluing_of t; corners = map side_at o.corner_of_entry; entries = entries_by labels o.entry_of_class }

-- an order over a table of so many faces: each corner has an entry, and the corners of entries are corners of the faces
pub record IsOver (faces : ℕ) (w : Ordered) : Type 0 where
  pub each_corner : length w.entries ≡ 3 * faces
  pub corners : All (λ c. c.face < faces) w.corners

-- the corner of an entry
abbrev pub corner_at : Ordered → ℕ → Side
corner_at w e = get_or w.corners e (side 0 first)

-- the entry of a corner
abbrev pub corner_entry : Ordered → Side → ℕ
corner_entry w c = get_or w.entries (number c) 0

-- the entries of a face: that of its corner o, and those after and before it
abbrev pub face_entries : Ordered → Side → FaceAcross
face_entries w o = record { across = corner_entry w o; after = corner_entry w (next o); before = corner_entry w (prev o) }

-- the three entries come before entry e
pub record IsBelow (e : ℕ) (t : FaceAcross) : Type 0 where
  pub across : t.across < e
  pub after : t.after < e
  pub before : t.before < e

-- the test of it
abbrev pub is_below : ℕ → FaceAcross → Bool
is_below e t = nat_lt t.across e && (nat_lt t.after e && nat_lt t.before e)

-- a face, where its entries come before entry e
abbrev pub only_below : ℕ → FaceAcross → Option FaceAcross
only_below e t = cond (is_below e t) (Some t) None

-- what the side of a corner gives to predict entry e from: the face across, where there is one whose entries all come before
unfoldable pub at_corner : Ordered → ℕ → Side → Option FaceAcross
at_corner w e c = elim (w.gluing c) [ None ↦ None | Some o ↦ only_below e (face_entries w o) ]

-- a face as an order keeps it: there is none where the entry of its corner across is free
abbrev pub kept_face : FaceAcross → Option FaceAcross
kept_face t = cond (eqb t.across free_entry) None (Some t)

-- what stands for no face
abbrev pub no_face : FaceAcross
no_face = record { across = free_entry; after = free_entry; before = free_entry }

-- for each entry the face across the side of its corner is kept, where there is one whose entries all come before
pub record AreFaces (w : Ordered) (faces : List FaceAcross) : Type 0 where
  pub each_entry : length faces ≡ length w.corners
  pub kept : (e : ℕ) → e < length w.corners → kept_face (get_or faces e no_face) ≡ at_corner w e (corner_at w e)

-- an order keeps the faces across
abbrev pub KeepsFaces : Ordered → Order → Type 0
KeepsFaces w o = AreFaces w o.faces_across

-- an order over a table whose corners have these classes: the class of each corner has an entry, and the faces across are kept
pub record IsOrdered (t : Table) (labels : List ℕ) (o : Order) : Type 0 where
  pub over : IsOver t.faces (ordered t labels o)
  pub classes : All (λ (k : ℕ). k < length o.entry_of_class) labels
  pub faces : KeepsFaces (ordered t labels o) o

-- From here on the code's own words: the lists that a face across is read from.

-- the lists of a surface fit together: they glue the sides of so many faces, and each corner has a class, and each class a number
pub record FitTogether (faces : ℕ) (across labels entry_of_class : List ℕ) : Type 0 where
  pub limit : faces ≤ MAX_FACES
  pub whole : length labels ≡ 3 * faces
  pub long : 3 * faces ≤ length across
  pub gluing : IsGluing faces (glued_in across)
  pub classes : All (λ (k : ℕ). k < length entry_of_class) labels

-- the surface that they give, with these corners of entries
abbrev pub ordered_from : List ℕ → List ℕ → List ℕ → List Side → Ordered
ordered_from across labels entry_of_class corners =
    record { gluing = glued_in across; corners = corners; entries = entries_by labels entry_of_class }
