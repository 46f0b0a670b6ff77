-- The seams of a mesh: glued sides at an end of which its two corners differ in an attribute (Draco Bitstream Specification 2.2, section
-- Edgebreaker Connectivity, attribute seams; the rule by which the encoder finds them is this project's choice).
use Rattle.std.specs.Prelude.{ℕ, ◌||◌, Bool, true, not, ℤ, List, [], slice_index, slice_index_or, take, drop, Some, None}
use Rattle.attr_heads.specs.Head.{width_of}
use Rattle.mesh_model.specs.Parts.{MeshParts, corner}
use Rattle.mesh_model.specs.Assembled.{same_row}
use Rattle.corner_table.specs.Sides.{Side, next, prev, place_number, Gluing}

-- the point at a corner
abbrev pub point_at : MeshParts → Side → ℕ
point_at m c = slice_index (slice_index_or m.faces c.face []) (place_number c.place)

-- the integers of a row that belong to attribute k
abbrev pub part_of : MeshParts → ℕ → List ℤ → List ℤ
part_of m k row = take (width_of (take 1 (drop k m.heads))) (drop (width_of (take k m.heads)) row)

-- the value of attribute k at a corner
abbrev pub piece : MeshParts → ℕ → Side → List ℤ
piece m k c = part_of m k (corner m c.face (place_number c.place))

-- two corners differ in attribute k
abbrev pub differ : MeshParts → ℕ → Side → Side → Bool
differ m k c d = not (same_row (piece m k c) (piece m k d))

-- a boundary is a seam; a pair is one where at either end its two corners differ in attribute k
abbrev pub is_seam : MeshParts → ℕ → Gluing → Side → Bool
is_seam m k g x = elim (g x) [ None ↦ true | Some y ↦ differ m k (next x) (prev y) || differ m k (prev x) (next y) ]
