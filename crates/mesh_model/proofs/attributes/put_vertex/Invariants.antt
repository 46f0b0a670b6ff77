use Rattle.std.proofs.Common.{◌≡◌, ◌++◌, take}
use Rattle.std.specs.List.{zip}
use Rattle.mesh_model.specs.Vertices.{vertex_row}
use Rattle.mesh_model.proofs.attributes.put_vertex.Given as goal

-- the values of the columns so far are appended
abbrev pub invariant-loop-j : goal.invariant-loop-j
invariant-loop-j l = l.cells.items ≡ l.fn.cells.items ++ vertex_row (take l.j (zip l.heads l.attributes)) l.vertex
