use Rattle.std.proofs.Common.{◌≡◌, ◌≤◌, length, drop}
use Rattle.ply_text.specs.Tokens.{tokens_of}
use Rattle.ply_mesh.specs.Body.{numbers_of}
use Rattle.ply_mesh.proofs.RowSteps.{IsRowSoFar}
use Rattle.ply_mesh.proofs.rows.row_in_place.Given as goal

abbrev pub invariant-loop-j : goal.invariant-loop-j
invariant-loop-j l =
    IsRowSoFar (numbers_of l.columns (tokens_of l.line)) l.fn.out.items l.out.items (numbers_of (drop l.j l.columns) (tokens_of (drop l.place l.line)))
    × (l.place ≤ length l.line)
    × (l.before ≡ length l.fn.out.items)
