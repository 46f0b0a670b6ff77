-- A geometry in the order that it had before its faces, or the points of a cloud, were renumbered (this project's choice).
use Rattle.std.specs.Prelude.{ℕ, ◌≡◌, ◌≤◌, ◌<◌, ◌+◌, ◌%◌, [], map, length, slice_index, slice_index_or, All}
use Rattle.mesh_model.specs.declared.geometries.Geometry.{Geometry}
use Rattle.mesh_model.specs.declared.geometries.Geometry.TheVariants.{Mesh, Cloud}
use Rattle.mesh_model.specs.IsGeometry.{IsGeometry}
use Rattle.mesh_model.specs.Parts.{MeshParts, CloudParts}
use Rattle.mesh_model.specs.Renumbering.{plain, composed, inverted, renumbered}
use Rattle.mesh_model.specs.Same.{Rows, NamesEachOnce, Same, named, turn}
use Rattle.mesh_model.specs.SameLaws.{count_of}

-- a cloud with its points in the order of the rows
abbrev pub reordered : CloudParts → Rows → CloudParts
reordered c rows = record c { points = map (λ row. slice_index_or c.points row.0 []) rows }

-- a geometry in the order before these rows: what row i names is face i, turned back, or point i
abbrev pub first_order : Geometry → Rows → Geometry
first_order (Mesh m) rows = Mesh (renumbered m (inverted rows))
first_order (Cloud c) rows = Cloud (reordered c (inverted rows))

-- the greatest turn that a row may have: faces have three corners, and points don't turn
abbrev pub greatest_turn : Geometry → ℕ
greatest_turn (Mesh m) = 2
greatest_turn (Cloud c) = 0

-- these rows name each face or point of a geometry once, and none is turned by more than it may be
pub record CanTurnBack (g : Geometry) (rows : Rows) : Type 0 where
  pub one_each : length rows ≡ count_of g
  pub names : NamesEachOnce (length rows) rows
  pub turns : All (λ row. row.1 ≤ greatest_turn g) rows

-- the number of the point of corner k, modulo 3, of face f
abbrev pub point_number : MeshParts → ℕ → ℕ → ℕ
point_number m f k = slice_index (slice_index_or m.faces f []) (k % 3)

-- a mesh o is the mesh n in the order before these rows: it has n's heads and points, and corner k + turn of the face that row i
-- names is the point of corner k of n's face i
pub record MeshStandsAgain (n o : MeshParts) (rows : Rows) : Type 0 where
  pub heads : o.heads ≡ n.heads
  pub points : o.points ≡ n.points
  pub count : length o.faces ≡ length n.faces
  pub corners : (i k : ℕ) → i < length n.faces → point_number o (named rows i) (k + turn rows i) ≡ point_number n i k

-- a cloud o is the cloud n in the order before these rows: it has n's heads, and the point that row i names is n's point i
pub record CloudStandsAgain (n o : CloudParts) (rows : Rows) : Type 0 where
  pub heads : o.heads ≡ n.heads
  pub count : length o.points ≡ length n.points
  pub points : (i : ℕ) → i < length n.points → slice_index_or o.points (named rows i) [] ≡ slice_index_or n.points i []

-- a geometry is another in the order before these rows
abbrev pub StandsAgain : Geometry → Geometry → Rows → Type 0
StandsAgain (Mesh n) (Mesh o) rows = MeshStandsAgain n o rows
StandsAgain (Cloud n) (Cloud o) rows = CloudStandsAgain n o rows
StandsAgain (Mesh n) (Cloud o) rows = ⊥
StandsAgain (Cloud n) (Mesh o) rows = ⊥

-- the rows back undo the rows
abbrev pub InvertedUndoes : Type 0
InvertedUndoes = (rows : Rows) → NamesEachOnce (length rows) rows → All (λ row. row.1 ≤ 2) rows →
    composed rows (inverted rows) ≡ plain (length rows)

-- the first order is that order
abbrev pub FirstOrderStands : Type 0
FirstOrderStands = (n : Geometry) (rows : Rows) → CanTurnBack n rows → StandsAgain n (first_order n rows) rows

-- and it is a geometry
abbrev pub FirstOrderIsGeometry : Type 0
FirstOrderIsGeometry = (n : Geometry) (rows : Rows) → IsGeometry n → CanTurnBack n rows → IsGeometry (first_order n rows)

-- where n is g by rows, it is g itself in the first order: its faces or points stand where g has them, and none is turned
abbrev pub FirstOrderIsSame : Type 0
FirstOrderIsSame = (g n : Geometry) (rows : Rows) → IsGeometry n → Same g n rows → Same g (first_order n rows) (plain (count_of g))
