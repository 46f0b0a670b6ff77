use Rattle.std.proofs.Common.{◌≡◌, ◌+◌, ◌*◌, ◌≤◌, ◌++◌, length, map, take, drop}
use Rattle.std.specs.Fmt.{signed_decimal}
use Rattle.ply_mesh.specs.Text.{line_text}
use Rattle.ply_mesh.proofs.writing.put_row.Given as goal

-- what is written of the row, and what is still to be written
abbrev pub invariant-loop-j : goal.invariant-loop-j
invariant-loop-j l =
    (take l.end l.buf ++ line_text (map signed_decimal (drop l.j l.row)) ≡ take l.at l.fn.buf ++ line_text (map signed_decimal l.row))
    × (l.end ≤ l.at + 12 * l.j)
    × (l.last + 1 ≡ length l.row)
    × (length l.buf ≡ length l.fn.buf)
