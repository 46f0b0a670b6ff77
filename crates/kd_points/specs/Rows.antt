-- By which rows the file of a cloud means it, and that a file means a geometry by rows (this project's choice).
use Rattle.std.specs.Prelude.{◌≡◌, ◌==◌, ℕ, List, length, map, count_by, Ok}
use Rattle.std.specs.List.{range_with_len, position_or_len}
use Rattle.std.specs.Ordering.{is_lt}
use Rattle.mesh_model.specs.declared.geometries.Geometry.{Geometry}
use Rattle.mesh_model.specs.Parts.{CloudParts}
use Rattle.mesh_model.specs.Same.{Rows, Same}
use Rattle.kd_tree.specs.Keys.{Key}
use Rattle.kd_tree.specs.Order.{point_cmp}
use Rattle.kd_points.specs.Extents.{keys_of}
use Rattle.kd_points.specs.Meaning.{kd_meaning}
use Rattle.kd_points.specs.Written.{KdOrder}

-- the rank of a number: how many numbers come before it, by key and then by number
abbrev pub rank_of : List Key → ℕ → ℕ
rank_of keys i = count_by (λ j. is_lt (point_cmp keys j i)) (range_with_len 0 (length keys))

-- the number of this rank
abbrev pub of_rank : List Key → ℕ → ℕ
of_rank keys rank = position_or_len (λ i. rank_of keys i == rank) (range_with_len 0 (length keys))

-- the rows of a cloud's file: row k names the point of rank k, and has no turn
unfoldable pub kd_rows : CloudParts → Rows
kd_rows c = map (λ p. (p, 0)) (map (of_rank (keys_of c)) (range_with_len 0 (length (keys_of c))))

-- there is one order of the points: the rows of an order are these rows
abbrev pub OrderIsOne : Type 0
OrderIsOne = (c : CloudParts) (rows : Rows) → KdOrder c rows → rows ≡ kd_rows c

-- these bytes are a file that means the geometry by the given rows
pub record KdMeans (g : Geometry) (bytes : List ℕ) (rows : Rows) : Type 0 where
  pub geometry : Geometry
  pub reads : kd_meaning bytes ≡ Ok geometry
  pub same : Same g geometry rows
