use Rattle.std.proofs.Common.{◌≡◌, ◌++◌, ◌≤◌, take}
use Rattle.std.specs.List.{flat_map}
use Rattle.mesh_model.specs.MapText.{row_line}
use Rattle.mesh_model.proofs.mapping.put_lines.Given as goal

-- the lines so far are in the text and in the chunk
abbrev pub invariant-loop-row : goal.invariant-loop-row
invariant-loop-row l = (l.out.items ++ take l.held l.chunk ≡ l.fn.out.items ++ flat_map row_line (take l.row-index l.rows)) × (l.held ≤ 4096)
