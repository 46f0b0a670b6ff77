use Rattle.mesh_model.proofs.Filters.{KeepsHashes}
use Rattle.mesh_model.proofs.row_filter.kept_hashes.Given as goal

-- the hashes so far that may equal an earlier one are kept
abbrev pub invariant-loop-i : goal.invariant-loop-i
invariant-loop-i l = KeepsHashes l.hashes l.mask l.i l.words l.kept.items
