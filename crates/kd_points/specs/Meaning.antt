-- What a kd-tree file of points means (this project's choice): its points in the order of the tree.
use Rattle.std.specs.Prelude.{◌≡◌, ℕ, ◌+◌, ◌*◌, ◌<◌, ◌≤◌, ℤ, pos, not, Bool, true, false}
use Rattle.std.specs.Prelude.{List, [], length, map, slice_index_or, Option, Result, Ok, option_map, position}
use Rattle.std.specs.List.{range_with_len, list_all}
use Rattle.drc_base.specs.declared.faults.Fault.{Fault}
use Rattle.drc_base.specs.declared.kinds.Kind.TheVariants as kind
use Rattle.drc_base.specs.Steps.{◌>>=◌}
use Rattle.drc_bits.specs.Reading.{Reading, Item, start_of}
use Rattle.rans_binary.specs.Blocks.{bit_block_at}
use Rattle.attr_heads.specs.declared.heads.Head.{Head}
use Rattle.mesh_model.specs.declared.geometries.Geometry.{Geometry}
use Rattle.mesh_model.specs.declared.geometries.Geometry.TheVariants.{Cloud}
use Rattle.attr_heads.specs.FirstFault.{at_place, value_unless}
use Rattle.attr_heads.specs.declared.bounds.Bounds.{Bounds}
use Rattle.attr_heads.specs.Bounds.{in_bounds, no_bounds}
use Rattle.attr_heads.specs.Head.{width_of, row_bounds}
use Rattle.mesh_model.specs.Parts.{CloudParts}
use Rattle.kd_tree.specs.Keys.{Key}
use Rattle.kd_tree.specs.Reading.{tree_of}
use Rattle.kd_points.specs.declared.headers.Header.{Header}
use Rattle.kd_points.specs.Extents.{depth_of, row_within}
use Rattle.kd_points.specs.Header.{kd_header_at, kd_declared_at}

-- how many bytes the extent of a component takes
abbrev pub extent_size : ℕ
extent_size = 5

-- the keys of the tree behind these extents, and where it ends; KdSplit stands where the split block begins
unfoldable pub tree_at : ℕ → ℕ → Reading → Item (List Key)
tree_at depth count c = do
  split ← bit_block_at c
  rest ← bit_block_at split.1
  tree ← tree_of (record { kind = kind.KdSplit; at = c.place }) depth count (record { split = split.0; rest = rest.0 })
  Ok (tree.0, rest.1)

-- whether all points have an integer within its bounds in a component
abbrev pub are_points_typed : List Head → List (List ℤ) → ℕ → Bool
are_points_typed heads points component =
    list_all (λ row. in_bounds (slice_index_or (row_bounds heads) component no_bounds) (slice_index_or row component (pos 0))) points

-- component r is the first with an integer outside its bounds; the number of components stands for none
pub record FirstOutside (row : List Bounds) (points : List (List ℤ)) (r : ℕ) : Type 0 where
  pub within : r ≤ length row
  pub before : (i j : ℕ) → i < length points → j < r
      → in_bounds (slice_index_or row j no_bounds) (slice_index_or (slice_index_or points i []) j (pos 0)) ≡ true
  pub here : r < length row
      → (i : ℕ) × (i < length points) × (in_bounds (slice_index_or row r no_bounds) (slice_index_or (slice_index_or points i []) r (pos 0)) ≡ false)

-- the fault of the first component with an integer outside its bounds, at its extent
unfoldable pub typed_fault : List Head → ℕ → List (List ℤ) → Option Fault
typed_fault heads at points =
    at_place kind.ValueRange (option_map (λ component. at + extent_size * component)
    (position (λ component. not (are_points_typed heads points component)) (range_with_len 0 (width_of heads))))

-- the cloud of a header and keys, or its fault
unfoldable pub cloud_of_keys : Header → List Key → Result CloudParts Fault
cloud_of_keys h keys =
    let points = map (row_within h.extents) keys in
    value_unless (typed_fault h.heads h.at points) (record { heads = h.heads; points = points })

-- a file of points
unfoldable pub file_at : Reading → Item CloudParts
file_at c = do
  header ← kd_header_at c
  keys ← tree_at (depth_of header.0.extents) header.0.count header.1
  cloud ← cloud_of_keys header.0 keys.0
  Ok (cloud, keys.1)

-- what a file declares, from its first byte on
abbrev pub kd_declared_of : List ℕ → Item ℕ
kd_declared_of bytes = kd_declared_at (start_of bytes)

-- the cloud that a file means, or its first fault; bytes behind its end aren't looked at
abbrev pub kd_meaning : List ℕ → Result Geometry Fault
kd_meaning bytes = file_at (start_of bytes) >>= λ x. Ok (Cloud x.0)
