use Rattle.std.proofs.Common.{◌+◌, ◌-◌, ◌≤◌, length, map}
use Rattle.ply_text.specs.Tokens.{tokens_of}
use Rattle.ply_mesh.specs.Body.{row_read, items_from}
use Rattle.ply_mesh.proofs.ItemSteps.{AreRowsSoFar}
use Rattle.ply_mesh.proofs.bodies.read_rows.Given as goal

abbrev pub invariant-loop-i : goal.invariant-loop-i
invariant-loop-i l =
    AreRowsSoFar (items_from (row_read l.columns) l.count l.at (map tokens_of l.fn.lines)) l.cells.items (items_from (row_read l.columns) (l.count - l.i) (l.at + l.i) (map tokens_of l.lines))
    × (length l.lines ≤ length l.fn.lines)
