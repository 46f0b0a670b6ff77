-- What holds of renumberings and of distinct rows.
use Rattle.std.specs.Prelude.{ℕ, ◌≤◌, ◌<◌, ℤ, List, length}
use Rattle.mesh_model.specs.Assembled.{Columns, corner_row, corner_rows, distinct}
use Rattle.mesh_model.specs.Parts.{MeshParts, IsMesh}
use Rattle.mesh_model.specs.Renumbering.{NamesApart, renumbered}
use Rattle.mesh_model.specs.RowIndex.{IsPointOf}
use Rattle.mesh_model.specs.Same.{Rows, NamesEachOnce, SameMesh}

-- as many rows as numbers, no two of which name the same, name each number once
abbrev pub ApartNamesEachOnce : Type 0
ApartNamesEachOnce = (count : ℕ) (rows : Rows) → NamesApart count rows → NamesEachOnce count rows

-- a mesh with its faces in another order, turned, is a mesh
abbrev pub RenumberedIsMesh : Type 0
RenumberedIsMesh = (m : MeshParts) (rows : Rows) → IsMesh m → NamesApart (length m.faces) rows → IsMesh (renumbered m rows)

-- and it is the same mesh by these rows
abbrev pub RenumberedIsSame : Type 0
RenumberedIsSame = (m : MeshParts) (rows : Rows) → IsMesh m → NamesApart (length m.faces) rows → SameMesh m (renumbered m rows) rows

-- where the row of each corner is that of a point, distinct corner rows are no more than points
abbrev pub DistinctAreFew : Type 0
DistinctAreFew = (columns : Columns) (count : ℕ) (points : List (List ℤ)) →
    ((c : ℕ) → c < count → (p : ℕ) × IsPointOf points (corner_row columns c) p) →
    length (distinct (corner_rows columns count)) ≤ length points
