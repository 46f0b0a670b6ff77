use Rattle.std.proofs.Common.{◌≡◌, take}
use Rattle.mesh_model.specs.Hash.{hash_from}
use Rattle.mesh_model.proofs.row_hash.hash_by_values.Given as goal

-- the values so far are mixed
abbrev pub invariant-loop-value : goal.invariant-loop-value
invariant-loop-value l = l.hash ≡ hash_from 0 (take l.value-index l.row)
