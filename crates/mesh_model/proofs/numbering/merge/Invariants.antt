use Rattle.std.proofs.Common.{◌≡◌, ◌*◌, ◌<◌, ◌≤◌, ℕ, length, get_or}
use Rattle.mesh_model.specs.Parts.{rows_of}
use Rattle.mesh_model.specs.RowIndex.{RowsAreNumbered, IsTwin}
use Rattle.mesh_model.proofs.numbering.merge.Given as goal

-- the rows so far are numbered, and the others have their twins
abbrev pub invariant-loop-i : goal.invariant-loop-i
invariant-loop-i l =
    let rows = rows_of l.width l.cells in
    record {
      numbered : RowsAreNumbered rows l.i l.twins (rows_of l.width l.kept.items);
      stored : length l.kept.items ≡ l.points * l.width;
      twins : (p : ℕ) → l.i ≤ p → p < l.count → IsTwin rows p (get_or l.twins p 0);
    }
