-- What holds of the keys of points and of written files (this project's choice).
use Rattle.std.specs.Prelude.{◌≡◌, ℕ, ◌<◌, ◌^◌, ◌++◌, List, [], length, slice_index_or, Option, None, Some, Ok, All}
use Rattle.attr_heads.specs.declared.heads.Head.{Head}
use Rattle.attr_heads.specs.declared.quants.Quant.{Quant}
use Rattle.mesh_model.specs.declared.geometries.Geometry.TheVariants.{Cloud}
use Rattle.mesh_model.specs.Same.{Rows, Same}
use Rattle.mesh_model.specs.Parts.{CloudParts, IsCloud}
use Rattle.kd_tree.specs.Trees.{split_count, rest_count}
use Rattle.kd_points.specs.Extents.{extents_of, depth_of, keys_of, key_within, row_within}
use Rattle.kd_points.specs.Meaning.{kd_meaning}
use Rattle.kd_points.specs.Written.{KdOrder, kd_fault, kd_written, kd_split_of, rest_of}

-- the key of each point of a cloud gives its integers back
abbrev pub KeysTellPoints : Type 0
KeysTellPoints = (c : CloudParts) (i : ℕ) → IsCloud c → i < length c.points
    → row_within (extents_of c) (key_within (extents_of c) (slice_index_or c.points i [])) ≡ slice_index_or c.points i []

-- the file of a cloud has as many split bits as the boxes that are divided ask for, and as many rest bits as are left of keys that
-- are alone
abbrev pub FileBitsAreCounted : Type 0
FileBitsAreCounted = (c : CloudParts)
    → (length (kd_split_of c) ≡ split_count (depth_of (extents_of c)) 0 (keys_of c))
    × (length (rest_of c) ≡ rest_count (depth_of (extents_of c)) 0 (keys_of c))

-- the numbers of a quantisation have 32 bits
abbrev pub KdQuantFits : Option Quant → Type 0
KdQuantFits None = Unit {0}
KdQuantFits (Some q) = All (λ m. m < 2 ^ 32) q.min × (q.range < 2 ^ 32)

-- the numbers of a head that are written in 32 bits fit them
pub record KdHeadFits (h : Head) : Type 0 where
  pub id : h.id < 2 ^ 32
  pub quant : KdQuantFits h.quant

-- these bytes are a file of a cloud that is the given one by these rows
pub record IsFileOf (c : CloudParts) (bytes : List ℕ) (rows : Rows) : Type 0 where
  pub cloud : CloudParts
  pub reads : kd_meaning bytes ≡ Ok (Cloud cloud)
  pub same : Same (Cloud c) (Cloud cloud) rows

-- the file of a cloud without a fault is read, whatever bytes follow it, as the same cloud with its points in the order of the tree
abbrev pub FilesAreReadAgain : Type 0
FilesAreReadAgain = (c : CloudParts) (rows : Rows) (more : List ℕ) → IsCloud c → kd_fault (Cloud c) ≡ None → All KdHeadFits c.heads
    → KdOrder c rows → IsFileOf c (kd_written c ++ more) rows
