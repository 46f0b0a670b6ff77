use Rattle.std.proofs.Common.{◌≡◌, take, length}
use Rattle.mesh_model.proofs.matching.same_heads.Given as goal

-- the heads so far are equal
abbrev pub invariant-loop-k : goal.invariant-loop-k
invariant-loop-k l = (take l.k l.a ≡ take l.k l.b) × (length l.a ≡ length l.b)
