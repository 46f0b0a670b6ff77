-- The integers that an attribute may have.
use Rattle.std.specs.Prelude.{ℕ, ℤ, pos, Bool, ◌&&◌, int_le, Option, None, Some}
use Rattle.attr_heads.specs.declared.bounds.Bounds.{Bounds}
use Rattle.attr_heads.specs.declared.heads.Head.{Head}
use Rattle.attr_heads.specs.DataTypes.{least_of, greatest_of}
use Rattle.attr_heads.specs.Octahedra.{square_bounds}

-- an integer lies within bounds
unfoldable pub in_bounds : Bounds → ℤ → Bool
in_bounds b value = int_le b.least value && int_le value b.greatest

-- what stands for the bounds of no integer
abbrev pub no_bounds : Bounds
no_bounds = record { least = pos 0; greatest = pos 0 }

-- the bounds of a data type
abbrev pub type_bounds : ℕ → Bounds
type_bounds dtype = record { least = least_of dtype; greatest = greatest_of dtype }

-- the bounds of a data type, or of a square where there is one
abbrev pub bounds_under : ℕ → Option ℕ → Bounds
bounds_under dtype None = type_bounds dtype
bounds_under dtype (Some bits) = square_bounds bits

-- the bounds of a head's integers
abbrev pub bounds_of : Head → Bounds
bounds_of h = bounds_under h.dtype h.octa
