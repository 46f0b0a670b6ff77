use Rattle.std.proofs.Common.{◌++◌, ◌≤◌, take, drop}
use Rattle.ply_mesh.specs.Text.{text_of, point_lines}
use Rattle.ply_mesh.specs.Printing.{AppendsAllBut}
use Rattle.ply_mesh.specs.declared.writing.TheConstants.{PIECE_BYTES}
use Rattle.ply_mesh.proofs.writing.put_points.Given as goal

-- all was appended but what the chunk holds and what is still to be put
abbrev pub invariant-loop-i : goal.invariant-loop-i
invariant-loop-i g l =
    let sink = g.O.Sink in
    AppendsAllBut (sink.held l.fn.out) (sink.held l.out) (take l.before l.fn.chunk ++ text_of (point_lines (g.P.Points.rows l.points))) (take l.held l.chunk ++ text_of (point_lines (drop l.i (g.P.Points.rows l.points))))
    × (l.held ≤ PIECE_BYTES)
    × (sink.faults l.fn.out ≤ sink.faults l.out)
