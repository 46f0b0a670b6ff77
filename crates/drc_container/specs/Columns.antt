-- The integers of points attribute by attribute: a column has those of one attribute, point after point (Draco Bitstream
-- Specification 2.2, section "Sequential Attributes").
use Rattle.std.specs.Prelude.{ℕ, ◌*◌, ℤ, List, [], ◌∷◌, ◌++◌, map, take, drop}
use Rattle.std.specs.List.{flat_map, range_with_len}
use Rattle.attr_heads.specs.declared.heads.Head.{Head}

-- the columns of these rows
abbrev pub columns_of : List Head → List (List ℤ) → List (List ℤ)
columns_of [] rows = []
columns_of (h ∷ heads) rows = flat_map (λ row. take h.comps row) rows ∷ columns_of heads (map (λ row. drop h.comps row) rows)

-- row i of these columns
abbrev pub column_row : List Head → List (List ℤ) → ℕ → List ℤ
column_row [] columns i = []
column_row (h ∷ heads) [] i = []
column_row (h ∷ heads) (column ∷ columns) i = take h.comps (drop (i * h.comps) column) ++ column_row heads columns i

-- the first n rows of these columns, one after another
abbrev pub cells_at : List Head → List (List ℤ) → ℕ → List ℤ
cells_at heads columns n = flat_map (column_row heads columns) (range_with_len 0 n)
