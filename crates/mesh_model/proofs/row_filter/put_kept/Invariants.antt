use Rattle.std.proofs.Common.{get_or, take}
use Rattle.std.specs.List.{All}
use Rattle.mesh_model.specs.BitSet.{HasBit}
use Rattle.mesh_model.specs.Hash.{sieve_of}
use Rattle.mesh_model.proofs.row_filter.put_kept.Given as goal

-- the buckets of the kept hashes so far are in the set
abbrev pub invariant-loop-i : goal.invariant-loop-i
invariant-loop-i l = All (λ p. HasBit l.words (sieve_of l.mask (get_or l.hashes p 0))) (take l.i-index l.kept)
