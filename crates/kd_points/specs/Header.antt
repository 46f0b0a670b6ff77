-- What stands in front of the tree in a kd-tree file of points (this project's choice; heads after the Draco Bitstream
-- Specification 2.2, section "Attributes Decoder").
use Rattle.std.specs.Prelude.{ℕ, ◌*◌, ◌==◌, List, [], ◌∷◌, Option, None, Some, Ok, nat_le, nat_lt, nat_eq, if◌then◌else◌}
use Rattle.std.specs.Cmp.Lexicographic.{pointwise}
use Rattle.drc_base.specs.declared.kinds.Kind.TheVariants as kind
use Rattle.drc_base.specs.declared.limits.TheConstants.{MAX_ATTRIBUTES, MAX_KD_POINTS, MAX_KD_VALUES}
use Rattle.drc_base.specs.Steps.{◌>>=◌}
use Rattle.drc_bits.specs.Reading.{Reading, Item, must, many_at, bytes_at}
use Rattle.drc_bits.specs.Numbers.{number_at, signed_at}
use Rattle.drc_bits.specs.Varint.{var32_at}
use Rattle.attr_heads.specs.declared.heads.Head.{Head}
use Rattle.attr_heads.specs.declared.quants.Quant.{Quant}
use Rattle.attr_heads.specs.DataTypes.{is_float}
use Rattle.attr_heads.specs.Head.{width_of}
use Rattle.attr_heads.specs.HeadItems.{head_at, quant_bits_at}
use Rattle.kd_points.specs.declared.extents.Extent.{Extent}
use Rattle.kd_points.specs.declared.headers.Header.{Header}

-- the first bytes of a file: KDPTS
abbrev pub kd_magic : List ℕ
kd_magic = 75 ∷ 68 ∷ 80 ∷ 84 ∷ 83 ∷ []

-- the version that is read
abbrev pub version : ℕ
version = 1

-- the first bytes, and the version
unfoldable pub kd_opening_at : Reading → Item ℕ
kd_opening_at c = do
  first ← must kind.KdMagic (λ bytes. pointwise nat_eq bytes kd_magic) (bytes_at 5) c
  must kind.KdVersion (λ n. n == version) (number_at 1) first.1

-- how many attributes there are
unfoldable pub kd_attribute_count_at : Reading → Item ℕ
kd_attribute_count_at c = must kind.AttrLimit (λ n. nat_le n MAX_ATTRIBUTES) (must kind.NoAttribute (λ n. nat_lt 0 n) var32_at) c

-- the quantisation of so many components: bits, range, minima
unfoldable pub kd_quant_at : ℕ → Reading → Item Quant
kd_quant_at comps c = do
  bits ← quant_bits_at c
  range ← number_at 4 bits.1
  minima ← many_at (number_at 4) comps range.1
  Ok (record { bits = bits.0; range = range.0; min = minima.0 }, minima.1)

-- the quantisation of an attribute of this type; integers have none
unfoldable pub kd_quant_of_at : ℕ → ℕ → Reading → Item (Option Quant)
kd_quant_of_at dtype comps c = if is_float dtype then (kd_quant_at comps c >>= λ q. Ok (Some q.0, q.1)) else Ok (None, c)

-- the head of an attribute
unfoldable pub kd_head_at : Reading → Item Head
kd_head_at c = do
  h ← head_at c
  quant ← kd_quant_of_at h.0.dtype h.0.comps h.1
  Ok (record h.0 { quant = quant.0; octa = None }, quant.1)

-- the heads of all attributes
unfoldable pub kd_heads_at : Reading → Item (List Head)
kd_heads_at c = do
  n ← kd_attribute_count_at c
  many_at kd_head_at n.0 n.1

-- how many points of so many integers there are
unfoldable pub point_count_at : ℕ → Reading → Item ℕ
point_count_at width c =
    must kind.Empty (λ n. nat_lt 0 n)
    (must kind.KdLimit (λ n. nat_le (n * width) MAX_KD_VALUES) (must kind.PointLimit (λ n. nat_le n MAX_KD_POINTS) var32_at)) c

-- what a file declares, whose faults come before out of memory: the first bytes, the version and the number of attributes
unfoldable pub kd_declared_at : Reading → Item ℕ
kd_declared_at c = do
  opening ← kd_opening_at c
  kd_attribute_count_at opening.1

-- the extent of a component
unfoldable pub extent_at : Reading → Item Extent
extent_at c = do
  least ← signed_at c
  bits ← must kind.KdBits (λ n. nat_le n 32) (number_at 1) least.1
  Ok (record { least = least.0; bits = bits.0 }, bits.1)

-- all that stands in front of the tree, and where the extents begin
unfoldable pub kd_header_at : Reading → Item Header
kd_header_at c = do
  opening ← kd_opening_at c
  heads ← kd_heads_at opening.1
  count ← point_count_at (width_of heads.0) heads.1
  extents ← many_at extent_at (width_of heads.0) count.1
  Ok (record { heads = heads.0; count = count.0; extents = extents.0; at = count.1.place }, extents.1)
