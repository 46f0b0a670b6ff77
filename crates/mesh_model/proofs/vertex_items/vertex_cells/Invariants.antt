use Rattle.std.proofs.Common.{◌≡◌, map}
use Rattle.std.specs.List.{range_with_len, zip}
use Rattle.mesh_model.specs.Parts.{cells_of}
use Rattle.mesh_model.specs.Vertices.{vertex_row}
use Rattle.mesh_model.proofs.vertex_items.vertex_cells.Given as goal

-- the rows of the vertices so far
abbrev pub invariant-loop-vertex : goal.invariant-loop-vertex
invariant-loop-vertex l = l.cells.items ≡ cells_of (map (vertex_row (zip l.heads l.attributes)) (range_with_len 0 l.vertex))
