-- What the heads of a geometry say of its rows, and when a head passes (Draco Bitstream
-- Specification 2.2, attribute decoders; the accepted types are this project's choice).
use Rattle.std.specs.Prelude.{ℕ, ◌&&◌, Bool, false, List, [], ◌∷◌, length, replicate, Option, None, Some, sum_by, flat_map, nat_le, map}
use Rattle.std.specs.List.{enumerate_from}
use Rattle.drc_base.specs.declared.faults.Fault.{Fault}
use Rattle.drc_base.specs.declared.kinds.Kind.TheVariants.{NoAttribute, AttrLimit, AttrType, DataType, Components, QuantBits}
use Rattle.drc_base.specs.declared.limits.TheConstants.{MAX_ATTRIBUTES, MAX_COMPONENTS}
use Rattle.attr_heads.specs.declared.quants.Quant.{Quant}
use Rattle.attr_heads.specs.declared.heads.Head.{Head}
use Rattle.attr_heads.specs.FirstFault.{unless, first_fault}
use Rattle.attr_heads.specs.DataTypes.{is_float, is_integer}
use Rattle.attr_heads.specs.Usages.{is_usage}
use Rattle.attr_heads.specs.Quants.{has_minima, has_bits}
use Rattle.attr_heads.specs.declared.bounds.Bounds.{Bounds}
use Rattle.attr_heads.specs.Octahedra.{has_coordinates, has_square_bits}
use Rattle.attr_heads.specs.Bounds.{bounds_of}

-- how many integers a row has: the sum of the components
abbrev pub width_of : List Head → ℕ
width_of heads = sum_by (λ h. h.comps) heads

-- the bounds of each integer of a row
abbrev pub row_bounds : List Head → List Bounds
row_bounds heads = flat_map (λ h. replicate h.comps (bounds_of h)) heads

-- an attribute has either a quantisation or a square exactly where its type is that of floats; the other types are those of integers
abbrev pub has_type : ℕ → Option Quant → Option ℕ → Bool
has_type dtype None None = is_integer dtype
has_type dtype None (Some bits) = is_float dtype
has_type dtype (Some q) None = is_float dtype
has_type dtype (Some q) (Some bits) = false

-- a point may have so many integers of one attribute
abbrev pub has_comps : ℕ → Bool
has_comps comps = nat_le 1 comps && nat_le comps MAX_COMPONENTS

-- the first fault of head `k`
abbrev pub head_fault : ℕ → Head → Option Fault
head_fault k h = first_fault (
    unless (is_usage h.usage) AttrType k
    ∷ unless (has_type h.dtype h.quant h.octa) DataType k
    ∷ unless (has_comps h.comps && (has_minima h.comps h.quant && has_coordinates h.comps h.octa)) Components k
    ∷ unless (has_bits h.quant && has_square_bits h.octa) QuantBits k
    ∷ [])

-- the first fault of heads of which the first is head `k`
abbrev pub each_fault : ℕ → List Head → Option Fault
each_fault k heads = first_fault (map (λ (j, h). head_fault j h) (enumerate_from k heads))

-- the first fault of a list of heads: of their number, then of each head in turn
unfoldable pub heads_fault : List Head → Option Fault
heads_fault heads = first_fault (
    unless (nat_le 1 (length heads)) NoAttribute (length heads)
    ∷ unless (nat_le (length heads) MAX_ATTRIBUTES) AttrLimit (length heads)
    ∷ each_fault 0 heads
    ∷ [])
