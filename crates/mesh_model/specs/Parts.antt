-- What a geometry is to contracts: heads, rows of integers, and triples of point numbers; and the
-- tests that a geometry passes (this project's choice; value ranges after the Draco Bitstream
-- Specification 2.2, attribute data types; those of octahedral attributes are this project's choice).
use Rattle.std.specs.Prelude.{ℕ, ◌≡◌, ◌≤◌, ◌<◌, ◌*◌, ◌/◌, ◌%◌, ℤ, pos, not, IsTrue, List, [], ◌∷◌, map, length, take, drop}
use Rattle.std.specs.Prelude.{slice_index_or, slice_index, Option, None, Result, All, flat_map, position, nat_le, nat_lt}
use Rattle.std.specs.List.{range_with_len, enumerate_from, list_all}
use Rattle.drc_base.specs.declared.faults.Fault.{Fault}
use Rattle.drc_base.specs.declared.kinds.Kind.TheVariants.{PointLimit, ValueLimit, FaceLimit, IndexRange, ValueRange}
use Rattle.drc_base.specs.declared.limits.TheConstants.{MAX_POINTS, MAX_VALUES, MAX_FACES}
use Rattle.attr_heads.specs.declared.heads.Head.{Head}
use Rattle.attr_heads.specs.FirstFault.{unless, first_fault, at_place, value_unless}
use Rattle.attr_heads.specs.Bounds.{in_bounds, no_bounds}
use Rattle.attr_heads.specs.Head.{width_of, row_bounds, heads_fault}

-- a mesh: the heads of its attributes, its points, each a row of the integers of all attributes in
-- order, and its faces, each a list of three point numbers
pub record MeshParts : Type 0 where
  pub heads : List Head
  pub points : List (List ℤ)
  pub faces : List (List ℕ)

-- a cloud: heads and points
pub record CloudParts : Type 0 where
  pub heads : List Head
  pub points : List (List ℤ)

-- the rows of `width` integers of a flat list: row i is the `width` cells from cell i * width on
abbrev pub rows_of : ℕ → List ℤ → List (List ℤ)
rows_of width cells = map (λ i. take width (drop (i * width) cells)) (range_with_len 0 (length cells / width))

-- the row of corner k, modulo 3, of face f: the row of its point
abbrev pub corner : MeshParts → ℕ → ℕ → List ℤ
corner m f k = slice_index_or m.points (slice_index (slice_index_or m.faces f []) (k % 3)) []

-- the fault of too many points or of too many values, that is points times width
abbrev pub count_fault : ℕ → ℕ → Option Fault
count_fault points width = first_fault (
    unless (nat_le points MAX_POINTS) PointLimit points
    ∷ unless (nat_le (points * width) MAX_VALUES) ValueLimit (points * width)
    ∷ [])

-- the fault of too many faces
abbrev pub faces_fault : List (List ℕ) → Option Fault
faces_fault faces = unless (nat_le (length faces) MAX_FACES) FaceLimit (length faces)

-- the fault of the first face with a number that is not below the number of points
unfoldable pub index_fault : ℕ → List (List ℕ) → Option Fault
index_fault points faces = at_place IndexRange (position (λ face. not (list_all (λ p. nat_lt p points) face)) faces)

-- the fault of the first cell outside the bounds of its column in the row: those of a data type, or of a square
unfoldable pub range_fault : List Head → List ℤ → Option Fault
range_fault heads cells = at_place ValueRange (
    position (λ (i, value). not (in_bounds (slice_index_or (row_bounds heads) (i % width_of heads) no_bounds) value))
    (enumerate_from 0 cells))

-- the first fault of heads, a flat list of points and faces that are to be a mesh
abbrev pub mesh_fault : List Head → List ℤ → List (List ℕ) → Option Fault
mesh_fault heads cells faces =
    let points = length cells / width_of heads in
    first_fault (
    heads_fault heads
    ∷ count_fault points (width_of heads)
    ∷ faces_fault faces
    ∷ index_fault points faces
    ∷ range_fault heads cells
    ∷ [])

-- the first fault of heads and a flat list of points that are to be a cloud
abbrev pub cloud_fault : List Head → List ℤ → Option Fault
cloud_fault heads cells = first_fault (
    heads_fault heads
    ∷ count_fault (length cells / width_of heads) (width_of heads)
    ∷ range_fault heads cells
    ∷ [])

-- the mesh of heads, a flat list of points and faces, or its first fault
abbrev pub mesh_of : List Head → List ℤ → List (List ℕ) → Result MeshParts Fault
mesh_of heads cells faces =
    value_unless (mesh_fault heads cells faces) (record { heads = heads; points = rows_of (width_of heads) cells; faces = faces })

-- the cloud of heads and a flat list of points, or its first fault
abbrev pub cloud_of : List Head → List ℤ → Result CloudParts Fault
cloud_of heads cells = value_unless (cloud_fault heads cells) (record { heads = heads; points = rows_of (width_of heads) cells })

-- where the heads pass, a flat list of points is whole rows
abbrev pub AreRows : List Head → List ℤ → Type 0
AreRows heads cells = heads_fault heads ≡ None → length cells % width_of heads ≡ 0

-- a row has the integers that the heads say, each within the bounds of its column
abbrev pub RowFits : List Head → List ℤ → Type 0
RowFits heads row =
    (length row ≡ width_of heads)
    × ((j : ℕ) → j < width_of heads → IsTrue (in_bounds (slice_index_or (row_bounds heads) j no_bounds) (slice_index_or row j (pos 0))))

-- the heads pass, and each row fits them, within the limits
pub record ArePoints (heads : List Head) (points : List (List ℤ)) : Type 0 where
  pub heads_pass : heads_fault heads ≡ None
  pub few_points : length points ≤ MAX_POINTS
  pub few_values : length points * width_of heads ≤ MAX_VALUES
  pub rows_fit : All (RowFits heads) points

-- each face has three numbers of points
abbrev pub IsFaceOf : ℕ → List ℕ → Type 0
IsFaceOf points face = (length face ≡ 3) × All (λ p. p < points) face

-- what holds of every mesh
pub record IsMesh (m : MeshParts) : Type 0 where
  pub points : ArePoints m.heads m.points
  pub few_faces : length m.faces ≤ MAX_FACES
  pub faces : All (IsFaceOf (length m.points)) m.faces

-- what holds of every cloud
abbrev pub IsCloud : CloudParts → Type 0
IsCloud c = ArePoints c.heads c.points

-- the flat list of rows
abbrev pub cells_of : List (List ℤ) → List ℤ
cells_of points = flat_map (λ row. row) points
