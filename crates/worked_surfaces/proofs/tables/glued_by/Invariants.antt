-- Gluing keeps the faces.
use Rattle.std.proofs.Common.{◌≡◌}
use Rattle.worked_surfaces.proofs.tables.glued_by.Given as goal

abbrev pub invariant-loop-pair : goal.invariant-loop-pair
invariant-loop-pair g l = l.table.faces ≡ l.fn.faces
