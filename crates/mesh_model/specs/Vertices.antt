-- Attributes that have their values at vertices, and the rows of vertices (this project's choice).
use Rattle.std.specs.Prelude.{ℕ, ◌≡◌, ◌<◌, ◌≤◌, ◌+◌, ◌*◌, ℤ, List, length, map, slice_index, flat_map, All}
use Rattle.std.specs.List.{range_with_len, zip}
use Rattle.attr_heads.specs.declared.heads.Head.{Head}
use Rattle.mesh_model.specs.Assembled.{AreTables, distinct, entry}
use Rattle.mesh_model.specs.Groups.{AttrTable, GroupParts, group_tables, HasVertices}

-- an attribute: the vertex of each corner, the entry of each vertex, and its values, entry after entry
pub record AttributeParts : Type 0 where
  pub of_corner : List ℕ
  pub entry_of : List ℕ
  pub values : List ℤ

-- the attributes of a group
abbrev pub attributes_of : GroupParts → List AttributeParts
attributes_of g = map (λ values. record { of_corner = g.of_corner; entry_of = g.entry_of; values = values }) g.values

-- the attributes of groups, in order
abbrev pub attributes_in : List GroupParts → List AttributeParts
attributes_in groups = flat_map attributes_of groups

-- an attribute as a table of entries
abbrev pub table_of : AttributeParts → AttrTable
table_of t = record { values = t.values; of_corner = map (λ v. slice_index t.entry_of v) t.of_corner }

-- heads with their attributes
abbrev pub VertexColumns : Type 0
VertexColumns = List (Head × AttributeParts)

-- the values of an attribute at a vertex
abbrev pub vertex_entry : ℕ → Head × AttributeParts → List ℤ
vertex_entry v column = entry column.0.comps column.1.values (slice_index column.1.entry_of v)

-- the row of a vertex: the values of all attributes at it, in order
abbrev pub vertex_row : VertexColumns → ℕ → List ℤ
vertex_row columns v = flat_map (vertex_entry v) columns

-- a vertex has an entry of an attribute, whose values are whole
pub record IsWholeAt (v : ℕ) (column : Head × AttributeParts) : Type 0 where
  pub has_entry : v < length column.1.entry_of
  pub whole : (slice_index column.1.entry_of v + 1) * column.0.comps ≤ length column.1.values

-- each head has its attribute, which has a vertex for each corner, and the values there are whole
pub record AreWhole (corners : ℕ) (heads : List Head) (attributes : List AttributeParts) : Type 0 where
  pub each_head : length attributes ≡ length heads
  pub each_corner : All (λ a. length a.of_corner ≡ corners) attributes
  pub whole : (c : ℕ) → c < corners → All (λ column. IsWholeAt (slice_index column.1.of_corner c) column) (zip heads attributes)

-- attributes in groups that share their vertices are tables of as many faces, and each corner has a vertex in each group
pub record AreGroups (heads : List Head) (groups : List GroupParts) (faces : ℕ) : Type 0 where
  pub tables : AreTables heads (group_tables groups) faces
  pub vertices : All (HasVertices (3 * faces)) groups

-- the vertices of the first `corners` corners are those below `count`, numbered as they come first: whatever rows the
-- vertices have, those of the numbers and those of the corners are the same distinct ones, in the same order
pub record AreInOrder (vertices : List ℕ) (corners count : ℕ) : Type 0 where
  pub few : count ≤ corners
  pub below : (c : ℕ) → c < corners → slice_index vertices c < count
  pub named : (v : ℕ) → v < count → (c : ℕ) × (c < corners) × (slice_index vertices c ≡ v)
  pub distinct_rows : (row : ℕ → List ℤ) →
      distinct (map row (range_with_len 0 count)) ≡ distinct (map (λ c. row (slice_index vertices c)) (range_with_len 0 corners))
