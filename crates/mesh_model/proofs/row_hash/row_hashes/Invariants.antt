use Rattle.std.proofs.Common.{◌≡◌, vec_capacity}
use Rattle.mesh_model.specs.Parts.{rows_of}
use Rattle.mesh_model.specs.RowIndex.{AreHashes}
use Rattle.mesh_model.proofs.row_hash.row_hashes.Given as goal

-- the rows so far have their hashes
abbrev pub invariant-loop-i : goal.invariant-loop-i
invariant-loop-i l = record {
  are : AreHashes (rows_of l.width l.cells) l.i l.hashes.items;
  room : vec_capacity l.hashes ≡ l.count;
}
