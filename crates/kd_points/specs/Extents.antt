-- Where the points of a cloud lie in each component: from the least integer on, within so many bits (this project's choice).
use Rattle.std.specs.Prelude.{ℕ, ℤ, pos, negsuc, ◌+ℤ◌, ◌-ℤ◌, List, length, map, fold, sum, slice_index, slice_index_or}
use Rattle.std.specs.Int.{int_min, int_max}
use Rattle.std.specs.List.{range_with_len}
use Rattle.attr_heads.specs.Head.{width_of}
use Rattle.mesh_model.specs.Parts.{CloudParts}
use Rattle.drc_bits.specs.Digits.{digits}
use Rattle.kd_tree.specs.Keys.{Key}
use Rattle.kd_points.specs.declared.extents.Extent.{Extent}
use Rattle.kd_points.specs.Axes.{axes_of}
use Rattle.kd_points.specs.Keys.{key_of, offset_in}
use Rattle.kd_points.specs.declared.axes.Axis.{Axis}

-- how far an integer is above another, and 0 where it is below
abbrev pub above : ℤ → ℕ
above (pos n) = n
above (negsuc n) = 0

-- the integers of all points in a component
abbrev pub column_of : ℕ → List (List ℤ) → List ℤ
column_of component points = map (λ row. slice_index_or row component (pos 0)) points

-- the least and the greatest of integers
abbrev pub least_in : List ℤ → ℤ
least_in values = fold int_min (slice_index_or values 0 (pos 0)) values

abbrev pub greatest_in : List ℤ → ℤ
greatest_in values = fold int_max (slice_index_or values 0 (pos 0)) values

-- the extent of integers: the least one, and the digits of how far the greatest is above it
abbrev pub extent_of : List ℤ → Extent
extent_of values = record { least = least_in values; bits = digits (above (greatest_in values -ℤ least_in values)) }

-- the extents of all components
unfoldable pub extents_of : CloudParts → List Extent
extents_of c = map (λ component. extent_of (column_of component c.points)) (range_with_len 0 (width_of c.heads))

-- no extent: one integer
abbrev pub no_extent : Extent
no_extent = record { least = pos 0; bits = 0 }

-- the axes of extents
unfoldable pub axes_over : List Extent → List Axis
axes_over extents = axes_of (map (λ e. e.bits) extents)

-- how many bits the keys within extents have
abbrev pub depth_of : List Extent → ℕ
depth_of extents = sum (map (λ e. e.bits) extents)

-- the offset of a point in a component
abbrev pub offset_of : List Extent → List ℤ → ℕ → ℕ
offset_of extents row component = above (slice_index_or row component (pos 0) -ℤ (slice_index_or extents component no_extent).least)

-- the key of a point
unfoldable pub key_within : List Extent → List ℤ → Key
key_within extents row = key_of (axes_over extents) (offset_of extents row)

-- the keys of the points of a cloud
abbrev pub keys_of : CloudParts → List Key
keys_of c = map (key_within (extents_of c)) c.points

-- the point that a key gives
unfoldable pub row_within : List Extent → Key → List ℤ
row_within extents key =
    map (λ component. (slice_index_or extents component no_extent).least +ℤ pos (offset_in (axes_over extents) key component))
    (range_with_len 0 (length extents))

-- the integer at an offset in a component
abbrev pub integer_at : List Extent → List ℕ → ℕ → ℤ
integer_at extents offsets component = (slice_index_or extents component no_extent).least +ℤ pos (slice_index offsets component)
