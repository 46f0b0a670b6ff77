use Rattle.std.proofs.Common.{◌≡◌, take, length}
use Rattle.mesh_model.proofs.matching.same_row.Given as goal

-- the integers so far are equal
abbrev pub invariant-loop-j : goal.invariant-loop-j
invariant-loop-j l = (take l.j l.a ≡ take l.j l.b) × (length l.a ≡ length l.b)
