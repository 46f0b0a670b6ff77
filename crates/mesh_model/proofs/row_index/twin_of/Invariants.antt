use Rattle.std.proofs.Common.{◌≡◌, ◌≤◌}
use Rattle.mesh_model.specs.RowIndex.{rows_at}
use Rattle.mesh_model.proofs.Indexes.{Walks}
use Rattle.mesh_model.proofs.row_index.twin_of.Given as goal

-- the chain from the link on has every earlier row that equals the row
abbrev pub invariant-loop-link : goal.invariant-loop-link
invariant-loop-link l = record {
  walks : Walks (rows_at l.fn.rows.table.rows l.chosen) l.links l.i l.link;
  pairs : l.rows.pairs ≤ l.rows.most;
  most : l.rows.most ≡ l.fn.rows.most;
  same : l.rows.table ≡ l.fn.rows.table;
  passes : l.rows.passes ≡ l.fn.rows.passes;
}

abbrev pub decreases-loop-link : goal.decreases-loop-link
decreases-loop-link l = l.link
