-- Items of corners: corners with the same vertices may share an item, which has their row, and is known by
-- the first of them (this project's choice).
use Rattle.std.specs.Prelude.{ℕ, ◌≡◌, ◌<◌, ◌≤◌, ◌*◌, ℤ, List, length, map, slice_index, All}
use Rattle.std.specs.List.{range_with_len}
use Rattle.mesh_model.specs.Assembled.{Columns, corner_row, corner_rows, distinct, triple}
use Rattle.mesh_model.specs.Groups.{GroupParts}
use Rattle.mesh_model.specs.Parts.{rows_of}
use Rattle.mesh_model.specs.RowIndex.{IsPointOf}

-- two corners have the same vertex in each group
abbrev pub HaveSameVertices : List GroupParts → ℕ → ℕ → Type 0
HaveSameVertices groups a b = All (λ g. slice_index g.of_corner a ≡ slice_index g.of_corner b) groups

-- corners with the same vertices have the same row
abbrev pub RowsFollowVertices : List GroupParts → ℕ → (ℕ → List ℤ) → Type 0
RowsFollowVertices groups corners row = (a b : ℕ) → a < corners → b < corners → HaveSameVertices groups a b → row a ≡ row b

-- the items of the first `count` corners, each known by its first corner: whatever rows the vertices have, those of the
-- items and those of the corners are the same distinct ones, in the same order
pub record AreItems (groups : List GroupParts) (corners count : ℕ) (firsts : List ℕ) : Type 0 where
  pub few : length firsts ≤ count
  pub before : (i : ℕ) → i < length firsts → slice_index firsts i < count
  pub distinct_rows : (row : ℕ → List ℤ) → RowsFollowVertices groups corners row →
      distinct (map row firsts) ≡ distinct (map row (range_with_len 0 count))

-- of each vertex an item is kept, plus one, or 0
abbrev pub AreLatest : List ℕ → List ℕ → Type 0
AreLatest latest firsts = (v : ℕ) → slice_index latest v ≤ length firsts

-- a corner has an item: it has the vertices of its first corner
abbrev pub HasItem : List GroupParts → List ℕ → ℕ → ℕ → Type 0
HasItem groups firsts c item = (item < length firsts) × HaveSameVertices groups (slice_index firsts item) c

-- each of `count` corners has an item
pub record HaveItems (groups : List GroupParts) (count : ℕ) (items firsts : List ℕ) : Type 0 where
  pub each : length items ≡ count
  pub item : (c : ℕ) → c < count → HasItem groups firsts c (slice_index items c)

-- each of `count` corners has an item, whose row is the corner's
pub record HaveRows (columns : Columns) (count : ℕ) (items : List ℕ) (rows : List (List ℤ)) : Type 0 where
  pub each : length items ≡ count
  pub row : (c : ℕ) → c < count → IsPointOf rows (corner_row columns c) (slice_index items c)

-- faces whose corners have items, no more than corners, and there is no row that no corner has
pub record AreItemFaces (columns : Columns) (count : ℕ) (faces : List (List ℕ)) (rows : List (List ℤ)) : Type 0 where
  pub distinct_rows : distinct rows ≡ distinct (corner_rows columns (3 * count))
  pub few : length rows ≤ 3 * count
  pub items : List ℕ
  pub have : HaveRows columns (3 * count) items rows
  pub are : faces ≡ map (triple items) (range_with_len 0 count)

-- faces by items, whose rows are stored one after another
pub record AreStoredItems (columns : Columns) (count width : ℕ) (faces : List (List ℕ)) (cells : List ℤ) (items : ℕ) : Type 0 where
  pub faces_are : AreItemFaces columns count faces (rows_of width cells)
  pub stored : length cells ≡ items * width
  pub few : items ≤ 3 * count
