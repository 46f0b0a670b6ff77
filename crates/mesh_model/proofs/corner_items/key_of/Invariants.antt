use Rattle.std.proofs.Common.{◌<◌, length}
use Rattle.mesh_model.proofs.corner_items.key_of.Given as goal

-- the key so far is one of the groups
abbrev pub invariant-loop-j : goal.invariant-loop-j
invariant-loop-j l = l.key < length l.groups
