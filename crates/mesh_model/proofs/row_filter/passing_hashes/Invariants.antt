use Rattle.std.proofs.Common.{get_or}
use Rattle.mesh_model.specs.BitSet.{HasBit}
use Rattle.mesh_model.specs.Hash.{sieve_of}
use Rattle.mesh_model.specs.RowIndex.{ArePassing}
use Rattle.mesh_model.proofs.row_filter.passing_hashes.Given as goal

-- the hashes so far that pass are chosen
abbrev pub invariant-loop-i : goal.invariant-loop-i
invariant-loop-i l = ArePassing (λ p. HasBit l.words (sieve_of l.mask (get_or l.hashes p 0))) l.i l.chosen.items
