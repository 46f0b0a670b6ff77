use Rattle.std.proofs.Common.{◌≡◌, ◌+◌, ◌-◌, ◌*◌, ◌≤◌, take, vec_len, vec_capacity}
use Rattle.attr_heads.specs.Head.{width_of}
use Rattle.mesh_model.specs.Parts.{cells_of}
use Rattle.drc_container.proofs.surface.turned_meshes.cells_of.Given as goal

abbrev pub invariant-loop-i : goal.invariant-loop-i
invariant-loop-i l = record {
  items : l.cells.items ≡ cells_of (take l.i l.mesh.points);
  room : vec_len l.cells + width_of l.mesh.heads * (l.count - l.i) ≤ vec_capacity l.cells;
}
