-- When two geometries are the same by a renumbering (this project's choice: faces turned at most,
-- in any order, point numbers free).
use Rattle.std.specs.Prelude.{ℕ, ◌≡◌, ◌<◌, ◌+◌, ◌==◌, List, [], length, slice_index_or, count_by, All}
use Rattle.mesh_model.specs.declared.geometries.Geometry.{Geometry}
use Rattle.mesh_model.specs.declared.geometries.Geometry.TheVariants.{Mesh, Cloud}
use Rattle.mesh_model.specs.Parts.{MeshParts, CloudParts, corner}

-- the rows of a renumbering: (face, turn) for each face of the other mesh, or (point, 0)
abbrev pub Rows : Type 0
Rows = List (ℕ × ℕ)

-- the number that row i names, and its turn
abbrev pub named : Rows → ℕ → ℕ
named rows i = (slice_index_or rows i (0, 0)).0

abbrev pub turn : Rows → ℕ → ℕ
turn rows i = (slice_index_or rows i (0, 0)).1

-- each number below `count`, and no other, stands in exactly one row
pub record NamesEachOnce (count : ℕ) (rows : Rows) : Type 0 where
  pub within : All (λ row. row.0 < count) rows
  pub once : (f : ℕ) → f < count → count_by (λ row. row.0 == f) rows ≡ 1

-- face i of n is face f of m, turned: its corner k has the integers of corner k + turn of that face
abbrev pub SameFace : MeshParts → MeshParts → ℕ → ℕ → ℕ → Type 0
SameFace m n i f turn = (turn < 3) × ((k : ℕ) → k < 3 → corner n i k ≡ corner m f (k + turn))

-- n is m with its faces in another order, turned, and its points numbered in another way: face i of n
-- is the face of m that row i names
pub record SameMesh (m n : MeshParts) (rows : Rows) : Type 0 where
  pub heads : m.heads ≡ n.heads
  pub each_row : length rows ≡ length n.faces
  pub each_face : NamesEachOnce (length m.faces) rows
  pub faces : (i : ℕ) → i < length n.faces → SameFace m n i (named rows i) (turn rows i)

-- point i of n is point p of m
abbrev pub SameCloudPoint : CloudParts → CloudParts → ℕ → ℕ → ℕ → Type 0
SameCloudPoint m n i p turn = (turn ≡ 0) × (slice_index_or n.points i [] ≡ slice_index_or m.points p [])

-- n is m with its points in another order: point i of n is the point of m that row i names
pub record SameCloud (m n : CloudParts) (rows : Rows) : Type 0 where
  pub heads : m.heads ≡ n.heads
  pub each_row : length rows ≡ length n.points
  pub each_point : NamesEachOnce (length m.points) rows
  pub points : (i : ℕ) → i < length n.points → SameCloudPoint m n i (named rows i) (turn rows i)

-- two meshes, or two clouds, are the same by a renumbering
abbrev pub Same : Geometry → Geometry → Rows → Type 0
Same (Mesh m) (Mesh n) rows = SameMesh m n rows
Same (Cloud m) (Cloud n) rows = SameCloud m n rows
Same (Mesh m) (Cloud n) rows = ⊥
Same (Cloud m) (Mesh n) rows = ⊥
