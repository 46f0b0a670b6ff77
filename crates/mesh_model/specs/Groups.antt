-- Attributes in groups that share their vertices, and the tables that these are (this project's choice).
use Rattle.std.specs.Prelude.{ℕ, ◌≡◌, ◌<◌, ℤ, List, length, map, slice_index, All, flat_map}

-- the values of one attribute, and for each corner (3 * face + k) the number of its entry
pub record AttrTable : Type 0 where
  pub values : List ℤ
  pub of_corner : List ℕ

-- attributes whose values stand at the same vertices: the vertex of each corner, the entry of each vertex, and the values
-- of each attribute, entry after entry
pub record GroupParts : Type 0 where
  pub of_corner : List ℕ
  pub entry_of : List ℕ
  pub values : List (List ℤ)

-- the entry of each corner: that of its vertex
abbrev pub corner_entries : GroupParts → List ℕ
corner_entries g = map (λ v. slice_index g.entry_of v) g.of_corner

-- the tables of a group's attributes
abbrev pub tables_of : GroupParts → List AttrTable
tables_of g = map (λ values. record { values = values; of_corner = corner_entries g }) g.values

-- the tables of the attributes of groups, in order
abbrev pub group_tables : List GroupParts → List AttrTable
group_tables groups = flat_map tables_of groups

-- each of so many corners has a vertex, and each of these an entry
pub record HasVertices (corners : ℕ) (g : GroupParts) : Type 0 where
  pub each_corner : length g.of_corner ≡ corners
  pub entries : All (λ v. v < length g.entry_of) g.of_corner
