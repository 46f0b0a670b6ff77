use Rattle.std.proofs.Common.{◌≡◌, take}
use Rattle.std.specs.List.{All}
use Rattle.mesh_model.proofs.vertex_items.have_vertices.Given as goal

-- the groups so far have these vertices
abbrev pub invariant-loop-group : goal.invariant-loop-group
invariant-loop-group l = All (λ g. g.of_corner ≡ l.vertices) (take l.group-index l.groups)
