use Rattle.std.proofs.Common.{◌≡◌, ◌++◌, map, take}
use Rattle.std.specs.List.{zip}
use Rattle.mesh_model.specs.Assembled.{corner_row}
use Rattle.mesh_model.specs.Vertices.{table_of}
use Rattle.mesh_model.proofs.attributes.put_corner.Given as goal

-- the entries of the columns so far are appended
abbrev pub invariant-loop-j : goal.invariant-loop-j
invariant-loop-j l = l.cells.items ≡ l.fn.cells.items ++ corner_row (take l.j (zip l.heads (map table_of l.attributes))) l.corner
