-- What holds of every header that is read.
use Rattle.std.specs.Prelude.{ℕ, ◌≡◌, ◌≤◌, ◌*◌, IsTrue, List, length, None, IfSome, IsSome, All, slice_index_or}
use Rattle.drc_base.specs.declared.limits.TheConstants.{MAX_POINTS, MAX_FACES, MAX_ATTRIBUTES, MAX_VALUES}
use Rattle.attr_heads.specs.declared.quants.Quant.{Quant}
use Rattle.attr_heads.specs.declared.heads.Head.{Head}
use Rattle.ply_text.specs.declared.headers.Property.{Property}
use Rattle.ply_text.specs.declared.headers.Header.{Header}
use Rattle.attr_heads.specs.DataTypes.{is_type, is_integer}
use Rattle.attr_heads.specs.Usages.{is_usage}
use Rattle.attr_heads.specs.Quants.{are_quant_bits}
use Rattle.attr_heads.specs.Octahedra.{are_octahedral_bits}
use Rattle.attr_heads.specs.declared.octahedra.TheConstants.{OCTAHEDRAL_INTEGERS}
use Rattle.attr_heads.specs.Head.{has_comps, heads_fault}
use Rattle.ply_text.specs.Draft.{Draft}
use Rattle.ply_text.specs.Header.{column_types}

-- the bits are in range, and there is a minimum for each component
pub record QuantFits (comps : ℕ) (q : Quant) : Type 0 where
  pub bits : IsTrue (are_quant_bits q.bits)
  pub minima : length q.min ≡ comps

-- the quantisation fits head n
abbrev pub FitsAt : List Head → ℕ → Quant → Type 0
FitsAt heads n q = (d : Head) → QuantFits (slice_index_or heads n d).comps q

-- the bits are in range, and there are the two coordinates
pub record SquareFits (comps bits : ℕ) : Type 0 where
  pub bits_fit : IsTrue (are_octahedral_bits bits)
  pub coordinates : comps ≡ OCTAHEDRAL_INTEGERS

-- a square of so many bits fits head n
abbrev pub FitsSquareAt : List Head → ℕ → ℕ → Type 0
FitsSquareAt heads n bits = (d : Head) → SquareFits (slice_index_or heads n d).comps bits

-- a head passes its tests, but for its type: it may get its quantisation or its square by a later line
pub record HeadFits (h : Head) : Type 0 where
  pub usage : IsTrue (is_usage h.usage)
  pub dtype : IsTrue (is_type h.dtype)
  pub comps : IsTrue (has_comps h.comps)
  pub quant : IfSome h.quant (QuantFits h.comps)
  pub octa : IfSome h.octa (SquareFits h.comps)

-- the type of a property is one of integers
abbrev pub HasType : Property → Type 0
HasType p = IsTrue (is_integer p.dtype)

-- what holds of all that was declared so far
pub record IsDraft (d : Draft) : Type 0 where
  pub few_heads : length d.heads ≤ MAX_ATTRIBUTES
  pub heads : All HeadFits d.heads
  pub vertices : IfSome d.vertices (λ n. n ≤ MAX_POINTS)
  pub properties : All HasType d.properties
  pub faces : IfSome d.faces (λ n. n ≤ MAX_FACES)

-- what holds of every header: its heads pass and have the properties' types, within the limits
pub record IsHeader (h : Header) : Type 0 where
  pub heads : heads_fault h.heads ≡ None
  pub types : column_types h.heads ≡ h.types
  pub vertices : h.vertices ≤ MAX_POINTS
  pub values : h.vertices * length h.types ≤ MAX_VALUES
  pub faces : IfSome h.faces (λ n. n ≤ MAX_FACES)
  pub list : IsSome h.faces → IsSome h.list
