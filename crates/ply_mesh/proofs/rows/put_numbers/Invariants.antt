use Rattle.std.proofs.Common.{drop}
use Rattle.ply_mesh.specs.Body.{numbers_of, texts}
use Rattle.ply_mesh.proofs.RowSteps.{IsRowSoFar}
use Rattle.ply_mesh.proofs.rows.put_numbers.Given as goal

abbrev pub invariant-loop-j : goal.invariant-loop-j
invariant-loop-j l = IsRowSoFar (numbers_of l.columns (texts l.found)) l.fn.out.items l.out.items (numbers_of (drop l.j l.columns) (drop l.j (texts l.found)))
