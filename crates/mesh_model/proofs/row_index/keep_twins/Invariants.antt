use Rattle.std.proofs.Common.{◌≡◌, ◌≢◌, ℕ, ◌<◌, ◌≤◌, [], false, get_or, length}
use Rattle.mesh_model.specs.RowIndex.{AreChains, IsTwin, rows_at}
use Rattle.mesh_model.proofs.row_index.keep_twins.Given as goal

-- the rows from row i on have their twins, and those before it their chains
abbrev pub invariant-loop-i : goal.invariant-loop-i
invariant-loop-i l =
    let rows = rows_at l.fn.rows.table.rows l.chosen in
    record {
      chains : AreChains rows l.i l.links;
      twins : (p : ℕ) → l.i ≤ p → p < length l.chosen → IsTwin rows p (get_or l.links p 0);
      none : l.some ≡ false → (p q : ℕ) → l.i ≤ p → p < length l.chosen → q < p → get_or rows q [] ≢ get_or rows p [];
      pairs : l.rows.pairs ≤ l.rows.most;
      most : l.rows.most ≡ l.fn.rows.most;
      same : l.rows.table ≡ l.fn.rows.table;
      passes : l.rows.passes ≡ l.fn.rows.passes;
    }
