use Rattle.std.proofs.Common.{◌≡◌, take}
use Rattle.mesh_model.specs.Vertices.{attributes_in}
use Rattle.mesh_model.proofs.attributes.attributes_in.Given as goal

-- the attributes of the groups so far
abbrev pub invariant-loop-group : goal.invariant-loop-group
invariant-loop-group l = l.attributes.items ≡ attributes_in (take l.group-index l.groups)
