use Rattle.std.proofs.Common.{◌≡◌, take, map}
use Rattle.kd_points.specs.Extents.{key_within}
use Rattle.kd_points.proofs.keys.keys_of.Given as goal

abbrev pub invariant-loop-p : goal.invariant-loop-p
invariant-loop-p l = l.keys ≡ record { depth = l.depth; rows = map (key_within l.extents) (take l.p l.cloud.points) }
