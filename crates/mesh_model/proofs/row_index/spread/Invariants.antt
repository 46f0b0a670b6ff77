use Rattle.std.proofs.Common.{◌≡◌, length}
use Rattle.mesh_model.specs.RowIndex.{AreSpread}
use Rattle.mesh_model.proofs.row_index.spread.Given as goal

-- the chosen rows so far have their links
abbrev pub invariant-loop-i : goal.invariant-loop-i
invariant-loop-i l = record {
  spread : AreSpread l.chosen l.links l.twins.items l.i;
  long : length l.twins.items ≡ l.count;
}
