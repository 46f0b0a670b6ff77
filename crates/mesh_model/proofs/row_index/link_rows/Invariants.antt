use Rattle.std.proofs.Common.{◌≡◌, List, ℤ, length, vec_capacity}
use Rattle.mesh_model.specs.RowIndex.{rows_at, AreHashes}
use Rattle.mesh_model.proofs.Indexes.{IsIndex}
use Rattle.mesh_model.proofs.row_index.link_rows.Given as goal

-- the rows so far are linked
abbrev pub invariant-loop-i : goal.invariant-loop-i
invariant-loop-i l = record {
  index : (rows : List (List ℤ)) → AreHashes rows (length l.hashes) l.hashes → IsIndex (rows_at rows l.chosen) l.mask l.i l.tops l.links.items;
  long : length l.links.items ≡ l.i;
  room : vec_capacity l.links ≡ length l.chosen;
}
