use Rattle.std.proofs.Common.{◌≡◌, map, take}
use Rattle.std.specs.List.{zip}
use Rattle.mesh_model.specs.Assembled.{corner_row}
use Rattle.mesh_model.specs.Parts.{cells_of}
use Rattle.mesh_model.specs.Vertices.{table_of}
use Rattle.mesh_model.proofs.corner_items.corner_cells.Given as goal

-- the rows of the corners so far
abbrev pub invariant-loop-corner : goal.invariant-loop-corner
invariant-loop-corner l = l.cells.items ≡ cells_of (map (corner_row (zip l.heads (map table_of l.attributes))) (take l.corner-index l.chosen))
