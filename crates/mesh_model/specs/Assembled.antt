-- The mesh of a table of values for each attribute: equal corner rows are merged (this project's
-- choice).
use Rattle.std.specs.Prelude.{ℕ, ◌≡◌, ◌≤◌, ◌+◌, ◌*◌, ℤ, Bool, not, List, [], ◌∷◌, length, take, drop, map, filter, slice_index}
use Rattle.std.specs.Prelude.{None, Result, All, IsTrue, flat_map}
use Rattle.std.specs.List.{range_with_len, position_or_len, zip}
use Rattle.std.specs.Cmp.Lexicographic.{pointwise}
use Rattle.std.specs.Ordering.{int_eq}
use Rattle.drc_base.specs.declared.faults.Fault.{Fault}
use Rattle.drc_base.specs.declared.limits.TheConstants.{MAX_FACES}
use Rattle.attr_heads.specs.declared.heads.Head.{Head}
use Rattle.mesh_model.specs.Groups.{AttrTable}
use Rattle.attr_heads.specs.FirstFault.{value_unless}
use Rattle.attr_heads.specs.Bounds.{in_bounds, bounds_of}
use Rattle.attr_heads.specs.Head.{width_of, heads_fault}
use Rattle.mesh_model.specs.Parts.{MeshParts, count_fault}

-- entry e of a table of `comps` values for each entry
abbrev pub entry : ℕ → List ℤ → ℕ → List ℤ
entry comps values e = take comps (drop (e * comps) values)

-- the columns of a mesh: each head with its table
abbrev pub Columns : Type 0
Columns = List (Head × AttrTable)

-- the entry of a column at a corner
abbrev pub column_entry : ℕ → Head × AttrTable → List ℤ
column_entry c column = entry column.0.comps column.1.values (slice_index column.1.of_corner c)

-- the row of a corner: the entries of all columns at it, in order
abbrev pub corner_row : Columns → ℕ → List ℤ
corner_row columns c = flat_map (column_entry c) columns

-- the rows of the first `count` corners
abbrev pub corner_rows : Columns → ℕ → List (List ℤ)
corner_rows columns count = map (corner_row columns) (range_with_len 0 count)

-- whether two rows are equal
abbrev pub same_row : List ℤ → List ℤ → Bool
same_row = pointwise int_eq

-- the distinct rows of a list, in order of first occurrence
abbrev pub distinct : List (List ℤ) → List (List ℤ)
distinct [] = []
distinct (row ∷ rows) = row ∷ filter (λ other. not (same_row row other)) (distinct rows)

-- the number of a row among rows: that of the first that equals it
abbrev pub row_number : List (List ℤ) → List ℤ → ℕ
row_number rows row = position_or_len (same_row row) rows

-- three numbers of a list, from number 3 * f on
abbrev pub triple : List ℕ → ℕ → List ℕ
triple numbers f = slice_index numbers (3 * f) ∷ slice_index numbers (3 * f + 1) ∷ slice_index numbers (3 * f + 2) ∷ []

-- the mesh whose points are the distinct corner rows in order of first occurrence, and each corner
-- has the point of its row
abbrev pub assembled_parts : List Head → List AttrTable → ℕ → MeshParts
assembled_parts heads tables faces =
    let rows = corner_rows (zip heads tables) (3 * faces) in
    let points = distinct rows in
    record { heads = heads; points = points; faces = map (triple (map (row_number points) rows)) (range_with_len 0 faces) }

-- the same, where it has neither too many points nor too many values
unfoldable pub assembled : List Head → List AttrTable → ℕ → Result MeshParts Fault
assembled heads tables faces =
    let m = assembled_parts heads tables faces in
    value_unless (count_fault (length m.points) (width_of heads)) m

-- a table has an entry for each corner, and its values are within the bounds of its head
pub record IsAttrTable (corners : ℕ) (column : Head × AttrTable) : Type 0 where
  pub each_corner : length column.1.of_corner ≡ corners
  pub entries : All (λ e. (e + 1) * column.0.comps ≤ length column.1.values) column.1.of_corner
  pub values : All (λ value. IsTrue (in_bounds (bounds_of column.0) value)) column.1.values

-- each head has its table
pub record AreAttrTables (corners : ℕ) (heads : List Head) (tables : List AttrTable) : Type 0 where
  pub each_head : length tables ≡ length heads
  pub each_column : All (IsAttrTable corners) (zip heads tables)

-- the heads pass, each has its table, and the faces are within the limit
pub record AreTables (heads : List Head) (tables : List AttrTable) (faces : ℕ) : Type 0 where
  pub heads_pass : heads_fault heads ≡ None
  pub few_faces : faces ≤ MAX_FACES
  pub columns : AreAttrTables (3 * faces) heads tables
