-- A table with names for its vertices, as rows of free sides have them: the code's own, from no source. The degrees that are kept are told
-- by it, and a rebuilding by rows keeps one.
use Rattle.std.specs.Prelude.{◌≡◌, ℕ, ◌*◌, ◌≤◌, List, length}
use Rattle.corner_table.specs.Table.{Table, gluing_of}
use Rattle.eb_machine.specs.Named.{Triangle, Row}
use Rattle.eb_machine.specs.Shown.{AreNames}

-- a table, the names of each face's corners, the rows, and how many vertices were made
pub record NamedTable : Type 0 where
  pub table : Table
  pub triangles : List Triangle
  pub rows : List Row
  pub made : ℕ

-- names are fans, and rows are free sides
pub record IsNamedTable (v : NamedTable) : Type 0 where
  pub long : length v.triangles ≡ v.table.faces
  pub names : AreNames v.triangles v.rows (gluing_of v.table) v.made
  pub few : v.made ≤ 3 * v.table.faces
