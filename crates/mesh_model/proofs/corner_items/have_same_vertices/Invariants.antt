use Rattle.std.proofs.Common.{take}
use Rattle.mesh_model.specs.Items.{HaveSameVertices}
use Rattle.mesh_model.proofs.corner_items.have_same_vertices.Given as goal

-- the groups so far have the same vertices at both corners
abbrev pub invariant-loop-group : goal.invariant-loop-group
invariant-loop-group l = HaveSameVertices (take l.group-index l.groups) l.a l.b
