-- The file of a cloud, and the order of its points (this project's choice).
use Rattle.std.specs.Prelude.{◌≡◌, ℕ, ◌*◌, Bool, not, nat_lt, nat_le, Option, None, Some, is_some, position, Result}
use Rattle.std.specs.Prelude.{List, [], ◌∷◌, ◌++◌, length, map, flat_map}
use Rattle.std.specs.Int.{w32, cast_unsigned}
use Rattle.drc_base.specs.declared.faults.Fault.{Fault}
use Rattle.drc_base.specs.declared.kinds.Kind.TheVariants as kind
use Rattle.drc_base.specs.declared.limits.TheConstants.{MAX_KD_POINTS, MAX_KD_VALUES}
use Rattle.drc_bits.specs.Bits.{low_bytes}
use Rattle.drc_bits.specs.Varint.{spelling}
use Rattle.rans_binary.specs.Blocks.{block}
use Rattle.attr_heads.specs.declared.heads.Head.{Head}
use Rattle.attr_heads.specs.declared.quants.Quant.{Quant}
use Rattle.mesh_model.specs.declared.geometries.Geometry.{Geometry}
use Rattle.attr_heads.specs.FirstFault.{unless, at_place, first_fault, value_unless}
use Rattle.mesh_model.specs.Contents.{heads_in, points_in, is_mesh}
use Rattle.attr_heads.specs.Head.{width_of}
use Rattle.attr_heads.specs.HeadItems.{head_bytes}
use Rattle.mesh_model.specs.Parts.{CloudParts}
use Rattle.mesh_model.specs.Same.{Rows}
use Rattle.kd_tree.specs.Trees.{split_bits, rest_bits}
use Rattle.kd_tree.specs.Order.{IsKdOrder}
use Rattle.kd_points.specs.declared.extents.Extent.{Extent}
use Rattle.kd_points.specs.Extents.{extents_of, keys_of, depth_of}
use Rattle.kd_points.specs.Header.{kd_magic, version}

-- the first attribute with a square: a file has no place for its bits
abbrev pub square_fault : Geometry → Option Fault
square_fault g = at_place kind.Octahedral (position (λ h. is_some h.octa) (heads_in g))

-- why a geometry isn't written: it is a mesh, it has an octahedral attribute, no points, too many, or too many integers
unfoldable pub kd_fault : Geometry → Option Fault
kd_fault g = first_fault (
    unless (not (is_mesh g)) kind.KdMesh 0
    ∷ square_fault g
    ∷ unless (nat_lt 0 (length (points_in g))) kind.Empty 0
    ∷ unless (nat_le (length (points_in g)) MAX_KD_POINTS) kind.PointLimit (length (points_in g))
    ∷ unless (nat_le (length (points_in g) * width_of (heads_in g)) MAX_KD_VALUES) kind.KdLimit
    (length (points_in g) * width_of (heads_in g))
    ∷ [])

-- the cloud of a geometry; of a mesh its points
abbrev pub cloud_in : Geometry → CloudParts
cloud_in g = record { heads = heads_in g; points = points_in g }

-- the bytes of a quantisation: bits, range, minima
abbrev pub kd_quant_bytes : Option Quant → List ℕ
kd_quant_bytes None = []
kd_quant_bytes (Some q) = q.bits ∷ low_bytes 4 q.range ++ flat_map (low_bytes 4) q.min

-- the bytes of a head
abbrev pub kd_head_bytes : Head → List ℕ
kd_head_bytes h = head_bytes h ++ kd_quant_bytes h.quant

-- the bytes of an extent
abbrev pub extent_bytes : Extent → List ℕ
extent_bytes e = low_bytes 4 (cast_unsigned w32 e.least) ++ e.bits ∷ []

-- the bytes in front of the tree
unfoldable pub kd_header_bytes : CloudParts → List ℕ
kd_header_bytes c =
    kd_magic ++ version ∷ spelling 5 (length c.heads) ++ (flat_map kd_head_bytes c.heads
    ++ (spelling 5 (length c.points) ++ flat_map extent_bytes (extents_of c)))

-- the split bits and the rest bits of the tree of a cloud
abbrev pub kd_split_of : CloudParts → List Bool
kd_split_of c = split_bits (depth_of (extents_of c)) 0 (keys_of c)

abbrev pub rest_of : CloudParts → List Bool
rest_of c = rest_bits (depth_of (extents_of c)) 0 (keys_of c)

-- the file of a cloud
unfoldable pub kd_written : CloudParts → List ℕ
kd_written c = kd_header_bytes c ++ (block (kd_split_of c) ++ block (rest_of c))

-- the rows name the points by key, then by number, and have no turns
pub record KdOrder (c : CloudParts) (rows : Rows) : Type 0 where
  pub order : List ℕ
  pub rows_are : rows ≡ map (λ p. (p, 0)) order
  pub ordered : IsKdOrder (keys_of c) order

-- what is due of a geometry: its file, or why it isn't written
abbrev pub kd_due : Geometry → Result (List ℕ) Fault
kd_due g = value_unless (kd_fault g) (kd_written (cloud_in g))

-- how many split bits and rest bits the file of a geometry has, or why it isn't written
abbrev pub kd_counts : Geometry → Result (ℕ × ℕ) Fault
kd_counts g = value_unless (kd_fault g) (length (kd_split_of (cloud_in g)), length (rest_of (cloud_in g)))
